pub mod Codes
pub mod Replies
pub mod Tables
pub mod Texts
