pub mod Making
pub mod Pushing
pub mod Ending
pub mod Current
pub mod Told
pub mod Matching
