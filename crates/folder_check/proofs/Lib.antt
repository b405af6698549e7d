pub mod CallParts
pub mod LineParts
