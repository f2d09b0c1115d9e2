pub mod Lists
pub mod Repeats
pub mod Noted
pub mod Heads
pub mod Hearing
pub mod Fours
