pub mod Examples
pub mod Passing
mod Again
