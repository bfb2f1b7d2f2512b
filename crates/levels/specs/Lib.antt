pub mod Levels
pub mod Owing
