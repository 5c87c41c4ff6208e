pub mod Agreement
pub mod Lines
pub mod Listings
pub mod Piles
pub mod Responders
pub mod Runs
pub mod Serving
