pub mod Configs
pub mod Draining
pub mod Reporting
pub mod Scripts
pub mod CutBehindEnd
pub mod OneReport
pub mod NoWant
