pub mod Pieces
pub mod Signs
pub mod Words
pub mod Content
pub mod Gives
pub mod ValuesAt
