pub mod Lowest
pub mod Attempting
pub mod Looking
