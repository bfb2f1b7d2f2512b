pub mod Words
pub mod Sections
