pub mod Frame
pub mod Kept
pub mod Making
pub mod Protocol
pub mod Rows
pub mod Stations
pub mod Turn
