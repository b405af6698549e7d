pub mod Appending
pub mod Closes
pub mod SinkFits
pub mod SinkLaws
pub mod SinkSessions
