pub mod KindLaws
pub mod Kinds
