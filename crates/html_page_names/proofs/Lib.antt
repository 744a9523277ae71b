pub mod ByLetter
pub mod Capitals
pub mod KindTable
pub mod Lowered
