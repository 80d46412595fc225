pub mod ByWorkers
pub mod Meshes
pub mod Statuses
