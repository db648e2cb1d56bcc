pub mod Lists
pub mod Assignments
pub mod Stages
pub mod Soundness
pub mod Apart
pub mod Nogoods
pub mod Counts
pub mod Listed
pub mod Parts
pub mod Carrying
pub mod Newness
mod Rows
