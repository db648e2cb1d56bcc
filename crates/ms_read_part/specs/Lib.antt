pub mod Kinds
pub mod Cuts
pub mod Leads
pub mod Pieces
