pub mod CheckpointSessions
pub mod Faults
pub mod FaultTexts
pub mod Taking
pub mod Telling
pub mod ToldSnapshots
