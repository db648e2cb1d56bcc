pub mod Literals
pub mod Assignment
pub mod Storage
