pub mod Allowed
mod DataNames
mod FirstKept
pub mod KeptAttrs
pub mod KeptTexts
pub mod LinkLaws
pub mod Pairs
pub mod ReadySound
pub mod Rels
pub mod TableNames
