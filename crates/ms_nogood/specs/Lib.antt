pub mod Store
pub mod Keys
pub mod Propagation
pub mod Looks
pub mod Theories
pub mod Watching
