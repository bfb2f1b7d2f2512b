pub mod Linking
pub mod Measuring
