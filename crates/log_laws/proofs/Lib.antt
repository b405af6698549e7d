mod Admits
mod Beside
pub mod Callers
mod Checkpoints
mod EmptyStores
mod Fronts
mod GoesOn
mod Growth
mod Lands
mod Leaves
mod LoadTalks
mod LogCloses
mod LogEntries
mod LogFiles
mod LogNewest
mod LogNumbers
mod LogSchema
mod OneMore
