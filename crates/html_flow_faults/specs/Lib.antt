pub mod ConstructFaults
pub mod FlowFaults
