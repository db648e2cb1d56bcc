pub mod Appending
pub mod Repeating
