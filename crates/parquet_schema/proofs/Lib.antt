pub mod ReadFields
pub mod PutLeaves
pub mod FitFields
pub mod LeafLevels
pub mod OwnTree
pub mod SchemaLists
pub mod Callers
