pub mod Cuts
pub mod LastItems
pub mod Lines
pub mod NoteKeys
pub mod NoteParts
pub mod Spaces
