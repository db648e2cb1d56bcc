pub mod Replacing
pub mod Pools
pub mod Ranges
pub mod CoreRules
pub mod Texts
