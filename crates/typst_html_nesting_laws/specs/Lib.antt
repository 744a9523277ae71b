pub mod FragmentsStay
pub mod TreesStay
