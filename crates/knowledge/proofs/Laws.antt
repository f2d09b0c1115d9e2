pub mod Store
pub mod Vectors
pub mod Learn
pub mod Added
pub mod Lines
