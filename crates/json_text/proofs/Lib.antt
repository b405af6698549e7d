mod Tokens
pub mod Views
