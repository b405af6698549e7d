mod ApartLemmas
pub mod Callers
mod CopyLemmas
mod KindLemmas
mod LoadLemmas
mod LoadedLemmas
mod NameLemmas
mod SaveLemmas
mod TraceLemmas
