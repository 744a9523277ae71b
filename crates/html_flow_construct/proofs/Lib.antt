pub mod JoinedFaults
pub mod Others
pub mod Unnamed
