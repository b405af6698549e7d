pub mod Callers
pub mod HandLemmas
pub mod ItemLemmas
pub mod PlaceLemmas
pub mod TurnLemmas
