pub mod Analysis
pub mod Cuts
