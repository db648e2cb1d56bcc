pub mod Links
pub mod Watches
pub mod Walks
pub mod Choices
pub mod Steps
pub mod Levels
pub mod Fronts
pub mod Kept
