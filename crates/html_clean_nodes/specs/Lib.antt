pub mod Cleaned
pub mod Cleaning
