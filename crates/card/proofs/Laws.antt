pub mod Print
pub mod Card
