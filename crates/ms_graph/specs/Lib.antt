pub mod Chains
pub mod Components
pub mod Search
pub mod Stages
pub mod State
