pub mod Readied
pub mod Weighing
