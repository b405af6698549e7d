pub mod Callers
pub mod LineLemmas
pub mod Moments
pub mod Numbers
pub mod Texts
