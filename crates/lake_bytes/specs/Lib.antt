pub mod Hybrid
pub mod Internal
pub mod LittleEndian
pub mod Reading
pub mod Texts
pub mod Varint
pub mod Zigzag
pub mod Tested
