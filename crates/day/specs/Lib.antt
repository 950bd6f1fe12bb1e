pub mod Shown
pub mod Accounts
pub mod Tiers
pub mod Amounts
pub mod Followed
pub mod Sellers
pub mod Posting
pub mod Day
