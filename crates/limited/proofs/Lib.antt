pub mod Switch
pub mod More
pub mod Cases
pub mod Refuted
