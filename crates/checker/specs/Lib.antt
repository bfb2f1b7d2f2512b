pub mod Matched
pub mod Built
