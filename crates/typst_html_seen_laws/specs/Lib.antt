pub mod AllSeen
pub mod PageLaws
