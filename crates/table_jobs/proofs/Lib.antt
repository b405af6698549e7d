pub mod Callers
mod OverJobs
mod QuietJobs
