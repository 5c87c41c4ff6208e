pub mod Lines
pub mod Over
pub mod Puts
pub mod Words
