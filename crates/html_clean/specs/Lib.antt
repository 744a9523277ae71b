pub mod Cleanings
