pub mod Readback
pub mod Demands
pub mod Front
pub mod Decide
pub mod Answered
pub mod Code
