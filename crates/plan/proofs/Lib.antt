pub mod Digits
pub mod Written
pub mod Counted
pub mod Planning
pub mod Example
