pub mod Words
pub mod Terms
pub mod Values
pub mod Statements
pub mod Reading
