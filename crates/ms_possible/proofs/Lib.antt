pub mod Lists
pub mod Inputs
pub mod FreeSets
pub mod Cutting
pub mod Joining
