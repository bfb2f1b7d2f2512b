pub mod Entering
pub mod Asking
pub mod Sifting
pub mod Behind
