pub mod Ink
pub mod Terms
pub mod Values
pub mod Statements
pub mod Law
