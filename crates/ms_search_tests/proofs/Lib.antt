pub mod Forbids
