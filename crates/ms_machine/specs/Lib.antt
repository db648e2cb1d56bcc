pub mod Replies
pub mod Logging
pub mod Machine
pub mod Scripts
