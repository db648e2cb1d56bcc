pub mod NoteText
pub mod Reading
