pub mod Links
pub mod Nodewise
pub mod Standing
pub mod Sequences
pub mod Props
