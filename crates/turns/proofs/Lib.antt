pub mod Entered
pub mod Turning
