pub mod Evaluating
pub mod Choosing
pub mod InOrder
pub mod Grounding
pub mod Simplifying
pub mod Limits
