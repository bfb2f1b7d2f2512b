pub mod Placed
pub mod Counting
pub mod Laying
