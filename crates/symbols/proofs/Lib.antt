pub mod Rows
pub mod Located
pub mod Stored
pub mod Asked
pub mod Entering
pub mod Whole
