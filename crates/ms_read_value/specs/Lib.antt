pub mod Lexemes
pub mod Machine
pub mod Front
