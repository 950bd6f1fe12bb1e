pub mod Quotients
pub mod Capacities
pub mod Orders
pub mod Insertion
pub mod Shares
pub mod Checked
pub mod WorkedByHand
