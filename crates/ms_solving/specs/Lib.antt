pub mod Grounding
pub mod Lines
pub mod Listing
pub mod Showing
