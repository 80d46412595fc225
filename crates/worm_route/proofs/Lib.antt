pub mod NothingTwice
pub mod Legs
pub mod Onward
pub mod Track
pub mod PlacesByNode
pub mod DigitCrossing
pub mod CrossesWhereNext
pub mod OneCutRises
pub mod LaneSteps
mod Worked
