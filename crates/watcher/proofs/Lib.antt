pub mod Growing
pub mod Following
