pub mod Unlisted
pub mod Rows
pub mod Length
pub mod WordCount
pub mod MatchPart
pub mod BuildPart
pub mod Passes
