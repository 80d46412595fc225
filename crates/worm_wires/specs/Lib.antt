pub mod Links
pub mod Wiring
pub mod Arrivals
pub mod Inbox
