-- Reading order: terms and their equality, which rules an intruder has, what he can derive with them, the terms of a sheet's entries, their sets of standard entries and their
-- representatives, the steps in their order, the course of the work, the replay, what is missing of an entry, and atoms that stand in no entry. Then the elimination that decides
-- sums and the run: what the program computes, which nobody has to believe for a verdict (`run_course`, proofs/Steps/Course.antt;
-- `missing_found`, proofs/Steps/Missing.antt).
pub mod Term
pub mod Setting
pub mod Derivation
pub mod Entry
pub mod Standard
pub mod Step
pub mod Course
pub mod Replay
pub mod Missing
pub mod Fresh
pub mod Elimination
pub mod Run
