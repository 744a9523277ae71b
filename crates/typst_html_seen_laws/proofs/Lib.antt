pub mod PageLaws
pub mod SeenNodes
