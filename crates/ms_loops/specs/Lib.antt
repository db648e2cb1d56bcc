pub mod Founded
pub mod Laws
