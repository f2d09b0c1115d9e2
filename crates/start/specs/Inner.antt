-- What the contracts of inner functions cite. Nobody has to believe it: proved laws tie it to the definitions beside this folder and below this crate.
pub mod State
pub mod Heads
pub mod Hearing
