pub mod Buckets
pub mod Admitted
pub mod Sorted
