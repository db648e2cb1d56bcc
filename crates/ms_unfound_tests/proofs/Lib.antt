pub mod Benches
pub mod TinyLaws
