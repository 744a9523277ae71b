pub mod Capitals
pub mod ForeignNames
pub mod Kinds
pub mod NamedReferences
pub mod PageNames
pub mod ReferenceRow
pub mod ReferenceRows
pub mod ReferenceTables
