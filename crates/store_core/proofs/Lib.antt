mod Answers
pub mod Callers
pub mod CommitNames
mod FlightLemmas
mod NameLemmas
pub mod Placing
mod Trees
mod TwelveDigits
pub mod TwentyDigits
