pub mod Views
pub mod FieldsLast
pub mod FieldKinds
pub mod Callers
