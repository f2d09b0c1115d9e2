-- Reading order: the whole card, and what printing it into a buffer does.
pub mod Card
pub mod Buffer
