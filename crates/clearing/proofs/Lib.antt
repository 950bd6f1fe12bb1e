pub mod Takes
pub mod Rounds
pub mod NextBids
pub mod Collecting
pub mod Ranges
pub mod Runs
pub mod SweptLevels
pub mod OpenNeeds
pub mod SegmentSteps
pub mod Declarations
mod Tables
