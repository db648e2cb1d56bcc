pub mod Kept
pub mod Looks
pub mod Propagation
pub mod Passing
