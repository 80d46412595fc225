pub mod Kinds
pub mod Stamps
pub mod Packets
pub mod Worms
pub mod Channels
pub mod Packing
pub mod SmallSet
