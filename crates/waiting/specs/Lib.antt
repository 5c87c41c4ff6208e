pub mod Waiting
pub mod WaitingKept
