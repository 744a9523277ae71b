pub mod ItemLists
pub mod ListViews
pub mod NoteLaws
pub mod Notes
