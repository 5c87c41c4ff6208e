pub mod Piles
pub mod Reading
pub mod Script
