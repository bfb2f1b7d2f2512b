pub mod Reading
pub mod Bodies
pub mod Starts
