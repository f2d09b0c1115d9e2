pub mod Laws
pub mod Card
pub mod Locks
pub mod Limits
pub mod Unique
pub mod Reading
pub mod Budgets
pub mod Refuted
