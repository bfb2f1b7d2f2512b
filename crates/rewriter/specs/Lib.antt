pub mod Replaces
