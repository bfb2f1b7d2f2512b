pub mod Answering
pub mod Turning
pub mod Planning
