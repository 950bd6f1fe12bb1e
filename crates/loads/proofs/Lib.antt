pub mod Stepping
pub mod Opening
pub mod Whole
pub mod TariffTurns
