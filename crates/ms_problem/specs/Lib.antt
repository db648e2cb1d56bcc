pub mod Numbered
pub mod Solves
