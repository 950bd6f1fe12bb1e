pub mod CorridorSets
pub mod ByCorridor
pub mod Trees
pub mod Rooms
pub mod Chains
