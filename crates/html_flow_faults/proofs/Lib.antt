pub mod ConstructFaults
