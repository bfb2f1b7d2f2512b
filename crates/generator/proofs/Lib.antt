pub mod Written
pub mod Matching
pub mod Building
