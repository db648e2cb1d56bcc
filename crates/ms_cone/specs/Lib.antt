pub mod Chains
pub mod Cones
pub mod Dependencies
pub mod Links
pub mod Search
