pub use Rattle.html_names_core.specs.Characters
pub use Rattle.html_names_core.specs.Displays
pub use Rattle.html_names_core.specs.Endings
pub use Rattle.html_names_core.specs.Kinds
pub use Rattle.html_names_table.specs.NameTables
pub use Rattle.html_names_core.specs.NameFaults
pub use Rattle.html_names_core.specs.Names
pub use Rattle.html_names_core.specs.Texts
