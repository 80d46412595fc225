pub mod Route
pub mod Distinct
pub mod Places
pub mod LaneMachine
pub mod Crossing
