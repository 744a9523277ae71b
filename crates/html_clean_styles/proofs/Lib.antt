pub mod Again
pub mod Characters
pub mod Cuts
pub mod Joined
pub mod Names
pub mod Spaces
pub mod Values
