mod Drawing
mod Named
mod Owned
pub mod Statuses
