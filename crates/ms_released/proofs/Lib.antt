mod CoreHeads
mod Names
pub mod Sets
pub mod Steps
pub mod Staying
pub mod Reaching
pub mod Seen
