pub mod Finishing
pub mod Lock
pub mod Names
pub mod Opening
pub mod Reaches
pub mod Receipts
pub mod Seats
pub mod Sights
