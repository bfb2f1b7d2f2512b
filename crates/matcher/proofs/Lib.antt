pub mod Places
pub mod Stepping
pub mod Parts
pub mod Opcodes
pub mod Whole
