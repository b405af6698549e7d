pub mod FrontForce
pub mod FrontHanding
pub mod FrontNames
pub mod FrontOrder
pub mod FrontReads
pub mod FrontStarts
pub mod VisibleNames
pub mod StandingVersions
