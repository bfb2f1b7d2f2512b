pub mod Answering
pub mod Measuring
pub mod Applying
