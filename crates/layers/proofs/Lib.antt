pub mod Both
pub mod Lowered
