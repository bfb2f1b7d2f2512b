pub mod Copied
pub mod Exchanged
pub mod Weighed
pub mod NextPlan
