pub mod Agencies
pub mod BodyStarts
pub mod FragmentPages
pub mod OwnEnds
pub mod PageBodies
pub mod PageTrees
pub mod TakenTexts
