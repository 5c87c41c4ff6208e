pub mod Adopting
pub mod Coin
pub mod CoinKept
pub mod Doublings
pub mod Examples
pub mod Leader
pub mod LeaderKept
