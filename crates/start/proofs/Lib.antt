pub mod Laws
pub mod Public
pub mod Halves
