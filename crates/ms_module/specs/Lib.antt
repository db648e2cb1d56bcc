pub mod Bodies
pub mod Faults
pub mod Inputs
pub mod Joins
pub mod Names
