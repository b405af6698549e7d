pub mod Callers
mod KeptFiles
mod KeptLaws
mod KeptLog
mod KeptSchema
mod KeptTail
mod KeptTails
mod KeptVersions
mod ReaderLaws
