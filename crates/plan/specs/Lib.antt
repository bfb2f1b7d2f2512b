pub mod Line
pub mod Program
