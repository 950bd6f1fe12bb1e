pub mod Sums
pub mod Lists
pub mod Awards
pub mod Rooms
pub mod Cuts
pub mod Groups
pub mod Worth
