pub mod Places
pub mod Bodies
