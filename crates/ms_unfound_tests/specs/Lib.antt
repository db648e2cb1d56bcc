pub mod Tiny
pub mod Benches
