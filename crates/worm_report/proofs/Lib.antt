pub mod Written
pub mod Idle
pub mod FlitsCounted
pub mod OneLines
pub mod LinesCounted
