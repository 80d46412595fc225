pub mod Commands
pub mod Faults
pub mod Programs
pub mod Views
