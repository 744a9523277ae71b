pub mod KeptHeads
pub mod LinkedChecks
pub mod LinkedTexts
pub mod MadeDocuments
pub mod SoundLinks
