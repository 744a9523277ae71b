mod DeadLinks
pub mod Pages
mod TextPieces
mod Faults
