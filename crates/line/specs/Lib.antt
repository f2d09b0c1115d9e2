-- Reading order: numbers in decimal, the words of the card, its lines, what writing text into a buffer does, and what a method of `Text` does.
pub mod Decimal
pub mod Words
pub mod Line
pub mod Buffer
pub mod Text
