-- Inner: an entry's key, and what the three tables hold.
pub mod Inner
