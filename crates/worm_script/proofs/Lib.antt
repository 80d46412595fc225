pub mod DueEntries
pub mod NextOfSource
pub mod GapsOfPart
pub mod GapsLinked
pub mod ScriptKept
