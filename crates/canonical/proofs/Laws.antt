pub mod Search
pub mod Buckets
pub mod Items
pub mod Key
pub mod Record
pub mod Line
pub mod Tables
pub mod Opener
