pub mod HeldLocations
pub mod NamedLocations
