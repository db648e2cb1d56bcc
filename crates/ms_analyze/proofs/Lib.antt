pub mod Marked
pub mod Trails
pub mod Resolved
pub mod Learning
pub mod Stages
pub mod Points
pub mod Reasoned
