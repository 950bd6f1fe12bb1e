pub mod Fields
pub mod Within
pub mod Tariffs
