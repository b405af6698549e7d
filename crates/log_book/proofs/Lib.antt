pub mod Callers
mod AnswerLemmas
mod BookLemmas
mod CommitCounts
mod HistoryLemmas
mod ByteLemmas
