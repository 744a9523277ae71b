pub mod Bodies
pub mod Collapsing
pub mod SeenBodies
pub mod Values
