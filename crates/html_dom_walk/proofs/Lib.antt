pub mod Events
pub mod Gathering
pub mod Passing
pub mod Skipping
pub mod Turning
pub mod Turns
