pub mod Awarded
pub mod Steps
pub mod Sequence
pub mod Declaration
pub mod Progress
