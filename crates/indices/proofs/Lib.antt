pub mod Covers
pub mod Gathering
