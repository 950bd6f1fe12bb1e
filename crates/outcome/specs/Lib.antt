pub mod Entries
pub mod View
pub mod Groups
pub mod Outcome
pub mod Laws
pub mod Worked
