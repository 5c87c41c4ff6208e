mod Empties
pub mod Passing
pub mod Seats
