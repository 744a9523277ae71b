pub mod ClosingTags
pub mod Fronts
pub mod Places
pub mod RawEnds
pub mod Words
