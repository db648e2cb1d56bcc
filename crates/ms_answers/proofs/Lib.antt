mod Carrying
mod Listed
mod Places
pub mod Rising
