-- Reading order: what is gained at the start. Inner: what making the state of it needs.
pub mod Start
pub mod Inner
