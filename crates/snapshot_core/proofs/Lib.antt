pub mod Callers
pub mod CheckpointTalks
pub mod FewCalls
pub mod FrontLemmas
pub mod KnownLemmas
pub mod LogLemmas
pub mod RestoredLaws
pub mod ToldLemmas
