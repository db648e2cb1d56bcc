pub mod Numbered
pub mod States
pub mod Extending
pub mod Laws
pub mod Solves
pub mod Admitted
