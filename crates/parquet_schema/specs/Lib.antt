pub mod FileTree
pub mod Reading
pub mod Fitting
pub mod Leaves
pub mod Views
pub mod Outcome
