pub mod Counted
pub mod Called
pub mod Generated
