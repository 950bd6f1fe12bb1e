pub mod Setters
pub mod Shapes
pub mod StackLaws
