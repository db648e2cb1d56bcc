pub mod ShownLists
