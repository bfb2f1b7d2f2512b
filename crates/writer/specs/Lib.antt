pub mod Written
pub mod Wanted
