pub mod Next
pub mod Spines
pub mod Stacks
pub mod Rising
pub mod Above
pub mod Going
