pub mod Sinks
pub mod Outcome
pub mod Serving
pub mod Words
