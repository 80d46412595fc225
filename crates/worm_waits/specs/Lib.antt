pub mod Waits
pub mod Chains
pub mod Text
