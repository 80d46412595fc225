pub mod Arbiter
pub mod ChannelSet
pub mod Table
pub mod VcRequest
pub mod Asked
pub mod Places
pub mod VcAlloc
