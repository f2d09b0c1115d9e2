-- Reading order: the code of a term, equality decided by it, terms with two parts, the terms of entries, exactness, elimination, the sets of standard entries,
-- the steps of a run, its verdicts and its replay, what the rules switched on bring, and atoms that stand in no entry.
pub mod Coding
pub mod Pieces
pub mod Forms
pub mod Distinct
pub mod Terms
pub mod Exactness
pub mod Elimination
pub mod Standard
pub mod Steps
pub mod Settings
pub mod Fresh
pub mod Examples
