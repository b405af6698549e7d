pub mod Book
pub mod Histories
pub mod Making
pub mod Opening
pub mod Records
