pub mod Passed
pub mod Tables
pub mod TwoCorridors
