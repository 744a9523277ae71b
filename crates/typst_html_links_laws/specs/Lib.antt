pub mod ItemHyperlinks
pub mod LinkedChecks
pub mod SoundLinks
