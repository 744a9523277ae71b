pub mod Gathering
pub mod PageTexts
pub mod PageViews
pub mod Parts
pub mod PlainTexts
pub mod Progress
pub mod Unseen
