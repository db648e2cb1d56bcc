mod ListOrder
mod ShownLists
pub mod LineFronts
