pub mod Examples
pub mod Invariant
pub mod Kept
pub mod Ratifier
pub mod Steps
