pub mod File
pub mod Reading
pub mod Outcome
pub mod FaultTexts
pub mod Internal
pub mod Writing
pub mod Views
pub mod DataFile
