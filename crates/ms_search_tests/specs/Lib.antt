pub mod Benches
pub mod Forbids
