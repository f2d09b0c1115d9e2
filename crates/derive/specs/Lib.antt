-- Reading order: a step as it stands in memory and in the buffer. Inner: the whole step of a number, the run from a state, what a run needs and hands back.
pub mod Bytes
pub mod Inner
