pub mod Entries
pub mod Marks
pub mod Stored
pub mod Leveled
pub mod Seen
pub mod Back
