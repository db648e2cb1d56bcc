pub mod LookUps
pub mod Tables
pub mod SideBySide
pub mod Around
pub mod Spans
pub mod Turns
