pub mod NumbersRead
pub mod OptionsGiven
pub mod Complete
