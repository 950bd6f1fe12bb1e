pub mod Sums
pub mod Awards
pub mod Lawful
pub mod Worth
