pub mod Parts
pub mod Nodes
pub mod Answers
pub mod Forbidden
pub mod Compared
pub mod Side
