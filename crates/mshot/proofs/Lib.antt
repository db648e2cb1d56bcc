pub mod Gaining
pub mod Progress
pub mod Reading
