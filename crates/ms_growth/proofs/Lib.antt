pub mod Running
mod Listed
