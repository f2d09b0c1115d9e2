-- What the contracts of inner functions cite. Nobody has to believe it: proved laws tie it to the definitions below this crate.
pub mod Right
pub mod Rule
pub mod Offers
pub mod Users
pub mod Table
pub mod Search
pub mod Next
