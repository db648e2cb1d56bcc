pub mod Tree
pub mod Order
pub mod Text
pub mod Size
pub mod Arithmetic
