pub mod Flats
pub mod Elements
pub mod FirstSiblings
pub mod Growth
pub mod Closings
pub mod Stacking
