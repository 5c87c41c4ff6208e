pub mod Examples
pub mod Extends
pub mod Fits
pub mod Overs
