pub mod ByGrid
pub mod GridSets
pub mod Grids
