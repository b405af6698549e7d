pub mod Tree
pub mod View
pub mod Said
pub mod FaultTexts
pub mod Fields
