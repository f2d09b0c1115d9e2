-- Inner: the rows of the state, what the state holds, and the lines beside it.
pub mod Inner
