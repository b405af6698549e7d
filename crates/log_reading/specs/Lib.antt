pub mod FromCheckpoints
pub mod InForce
pub mod LogCache
pub mod Logs
pub mod Readings
pub mod Reads
pub mod SchemaCodes
pub mod Views
