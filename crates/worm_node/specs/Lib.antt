pub mod Node
pub mod NewNodes
