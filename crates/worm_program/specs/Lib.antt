pub mod Statuses
pub mod Together
