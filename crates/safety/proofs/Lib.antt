pub mod Entries
pub mod Asked
pub mod Building
pub mod Matching
pub mod NeverStuck
pub mod Counts
pub mod Limits
pub mod Named
