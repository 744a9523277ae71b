pub mod Events
pub mod Gathered
pub mod Passing
pub mod Walks
pub mod WalkLaws
