pub mod Metadata
pub mod Frame
pub mod Footer
pub mod Reading
pub mod Views
pub mod Outcome
pub mod FaultTexts
