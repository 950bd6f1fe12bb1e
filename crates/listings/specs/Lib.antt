pub mod Listings
pub mod Pages
pub mod Parties
pub mod Rows
