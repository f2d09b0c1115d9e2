-- Reading order: what a set of entries is, and how machine words and bytes hold one.
pub mod Set
pub mod Words
-- Inner: what inner contracts say of sets. Nobody has to believe it.
pub mod Inner
