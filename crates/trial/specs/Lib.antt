pub mod Answers
pub mod Events
pub mod Law
pub mod Perform
pub mod Trials
