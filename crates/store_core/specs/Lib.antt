pub mod Calls
pub mod Memory
pub mod Listed
pub mod Names
pub mod ObjectLaws
pub mod Objects
pub mod Texts
pub mod Turns
