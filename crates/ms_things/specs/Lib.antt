pub mod Numbers
pub mod Signs
pub mod Completion
pub mod Loops
pub mod Aggregates
pub mod Consequences
