pub mod Walks
pub mod DistinctIds
pub mod ElementPaths
pub mod FindingPlaces
pub mod Finds
pub mod Hyperlinks
pub mod NormalForms
pub mod TreeTexts
