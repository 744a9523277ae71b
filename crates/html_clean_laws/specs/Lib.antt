pub mod CleanNodes
pub mod CleanLaws
