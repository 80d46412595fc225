pub mod Packets
pub mod Worming
pub mod Owners
pub mod Masks
pub mod Packed
pub mod BitTests
pub mod LowestBit
pub mod SmallSets
