mod Ending
mod HistoryParts
mod Reaching
mod Seating
mod Seeing
mod Steps
mod StoreLogs
mod Telling
