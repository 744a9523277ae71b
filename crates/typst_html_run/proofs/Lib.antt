pub mod Answering
pub mod FirstFaults
pub mod Heads
pub mod Inputs
pub mod Outputs
pub mod PushedNames
