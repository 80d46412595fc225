pub mod Rows
pub mod Seen
pub mod Report
pub mod Sums
pub mod Writing
