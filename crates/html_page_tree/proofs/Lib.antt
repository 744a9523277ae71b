pub mod BodyStarts
pub mod Branches
pub mod OwnEnds
pub mod TakenTexts
pub mod Turning
