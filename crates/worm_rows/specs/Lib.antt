pub mod Rows
pub mod Rules
pub mod Reading
pub mod Report
pub mod Written
