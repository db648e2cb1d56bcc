pub mod Learned
pub mod Laws
