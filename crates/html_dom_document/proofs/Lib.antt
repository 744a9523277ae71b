pub mod Cursors
pub mod DomWalks
pub mod Equals
pub mod Leading
pub mod Locations
pub mod Outputs
pub mod Places
pub mod Positions
