pub mod Scene
pub mod Nodes
pub mod Titles
pub mod Ways
pub mod Picture
pub mod Packets
pub mod Signs
pub mod Map
