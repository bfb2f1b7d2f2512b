pub mod Places
pub mod Each
