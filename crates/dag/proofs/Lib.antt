pub mod Laws
pub mod Atoms
pub mod Halves
pub mod Full
