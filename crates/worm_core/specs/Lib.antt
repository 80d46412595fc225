pub mod Headline
pub mod StepMoves
pub mod LaneView
pub mod LaneSet
pub mod Acceptable
