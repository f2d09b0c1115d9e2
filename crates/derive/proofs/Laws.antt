pub mod Machine
pub mod Buffer
pub mod Written
pub mod Step
pub mod Lines
pub mod Along
