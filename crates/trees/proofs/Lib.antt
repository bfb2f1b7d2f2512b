pub mod Related
pub mod Sizes
pub mod Values
pub mod Words
pub mod Depths
pub mod Reaches
pub mod Growing
pub mod Made
