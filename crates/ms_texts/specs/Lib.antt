pub mod Sections
pub mod Additions
