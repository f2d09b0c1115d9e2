-- Reading order: which errors pass, what a read fills and what is written of a failure, and which inputs look like text.
pub mod Stream
pub mod Text
