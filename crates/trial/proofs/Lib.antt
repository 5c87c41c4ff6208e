pub mod EventLists
pub mod LawOfRuns
pub mod Makings
pub mod Performing
pub mod Rehearsing
pub mod Untouched
