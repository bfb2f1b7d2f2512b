pub mod Watching
pub mod Counting
