pub mod Apart
pub mod Bodies
pub mod Gathering
pub mod Held
pub mod Parts
pub mod PastEvents
pub mod PlainTexts
