pub mod Beside
pub mod Driving
pub mod Looking
pub mod Runs
pub mod Snapshots
pub mod Tails
pub mod Visible
