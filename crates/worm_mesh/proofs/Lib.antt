pub mod Radices
pub mod Digits
pub mod Neighbours
pub mod Numbers
pub mod Counts
mod Worked
