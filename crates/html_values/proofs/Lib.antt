pub mod Commas
pub mod Equals
pub mod IconSizes
pub mod Joined
pub mod OneChar
pub mod Spaces
