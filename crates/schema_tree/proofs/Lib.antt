pub mod Truths
pub mod StructView
pub mod FieldLoops
pub mod PrintedFields
pub mod SameFields
pub mod FieldLeaves
pub mod PrimitiveNames
pub mod PrintedReads
mod Members
mod Decimals
mod ReadNodes
mod ReadSteps
mod ReadPrimitives
mod ReadLimits
mod ReadTrees
mod ReadSchema
