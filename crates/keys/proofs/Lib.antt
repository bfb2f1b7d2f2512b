pub mod Among
pub mod Parting
pub mod Keying
