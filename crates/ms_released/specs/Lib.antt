pub mod Released
pub mod Laws
