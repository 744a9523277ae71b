pub mod ClosingTags
pub mod Fronts
pub mod Places
pub mod RawEnds
pub mod TagNames
pub mod Words
