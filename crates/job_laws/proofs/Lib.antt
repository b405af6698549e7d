mod Added
mod Admissible
mod AppendedAgain
mod AppendedAlone
mod AppendedFile
mod AppendedLog
pub mod Callers
pub mod CloseSound
mod Left
mod Loaded
mod LoadedItems
mod NameKinds
mod OwnSteps
mod Requests
mod SameLogs
mod SameReads
mod SameReplies
mod SavedFronts
mod SavedNames
mod SavedPuts
mod SoundGrowth
mod SoundLines
mod TextReads
