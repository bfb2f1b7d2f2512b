pub mod Ready
pub mod Midway
