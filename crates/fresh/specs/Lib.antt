-- Which atoms an intruder may start with of his own, and his start with them.
pub mod Own
