pub mod Begins
pub mod Bounds
pub mod Judged
pub mod ListingsLawful
pub mod PilesLawful
pub mod PilesMade
pub mod Reports
pub mod Turns
