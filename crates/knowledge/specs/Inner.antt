-- What the contracts of inner functions cite. Nobody has to believe it: proved laws tie it to the definitions below this crate.
pub mod Rows
pub mod State
pub mod Lines
