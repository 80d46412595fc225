pub mod Pieces
mod Taken
mod Shown
mod InMesh
mod OneMore
mod Names
mod Tails
mod Counted
mod Moving
mod Listed
mod Padded
