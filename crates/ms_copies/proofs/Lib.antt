pub mod Values
pub mod Operations
pub mod Rows
pub mod Integers
pub mod Listed
