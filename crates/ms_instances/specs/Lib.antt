pub mod Instances
pub mod Listing
pub mod Naming
