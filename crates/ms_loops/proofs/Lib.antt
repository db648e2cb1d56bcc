mod Choosing
mod Counting
mod Unfounded
mod Founding
mod Members
mod Writing
mod Extended
mod Nogoods
mod Truths
mod Assigning
mod Staying
pub mod Growing
