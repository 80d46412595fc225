pub mod StepsTake
pub mod Packets
pub mod RowLaws
pub mod Order
pub mod Readings
pub mod Loop
pub mod Same
pub mod NoWant
