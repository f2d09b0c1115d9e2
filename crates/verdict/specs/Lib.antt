-- Reading order: the output buffer; which calls are refused; the demands, as one statement about whole derivations; the demands as equations; two calls with two
-- budgets; the numbers of answers; the starred cases and those of key pairs and locks. Inner: what is decided. What is gained at the start stands in crate
-- `start`.
pub mod Buffer
pub mod Refused
pub mod Demands
pub mod Answer
pub mod Agrees
pub mod Code
pub mod Card
pub mod Locks
pub mod Inner
