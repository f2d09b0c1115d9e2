-- Reading order: where things stand in a sheet's bytes, what a record says, and which sheets are refused and why.
pub mod Sheet
pub mod Record
pub mod Refusal
pub mod Code
pub mod Kind
