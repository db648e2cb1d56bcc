pub mod Meanings
pub mod Rows
pub mod Sides
pub mod Makers
pub mod Copies
