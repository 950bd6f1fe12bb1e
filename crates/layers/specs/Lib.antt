pub mod Cutting
pub mod Decided
pub mod OnePlace
pub mod Stack
