pub mod Callers
pub mod ErrorLemmas
pub mod MeaningLemmas
