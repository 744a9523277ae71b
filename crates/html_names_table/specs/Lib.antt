pub mod NameTables
pub mod Numberings
pub mod OwnNumbers
