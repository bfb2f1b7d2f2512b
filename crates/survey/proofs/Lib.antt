pub mod Places
pub mod Surveying
pub mod Noting
