pub mod LastChars
pub mod LastNodes
pub mod PastEvents
pub mod Stays
