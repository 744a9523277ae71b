pub mod Construct
pub mod Endings
pub mod ArgumentPieces
