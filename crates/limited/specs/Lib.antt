-- Reading order: which byte of switches has every switch of another; the cases.
pub mod Switch
pub mod Cases
