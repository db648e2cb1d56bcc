pub mod Words
pub mod Numerals
pub mod Items
pub mod Dispatch
pub mod Colons
pub mod Starts
pub mod Notes
pub mod Logs
