pub mod Working
pub mod Runs
