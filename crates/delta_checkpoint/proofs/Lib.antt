pub mod Places
pub mod Printed
pub mod Restored
