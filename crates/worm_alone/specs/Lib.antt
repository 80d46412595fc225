pub mod Faults
pub mod Joined
pub mod Programs
