pub mod MadeGroups
pub mod Pushed
pub mod Sent
pub mod ToFeed
