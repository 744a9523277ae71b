pub mod Bodies
pub mod NodeAtoms
