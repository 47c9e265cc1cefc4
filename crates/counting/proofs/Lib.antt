-- The laws, lowest first.
pub mod Tallies
pub mod Heads
pub mod Cross
pub mod Reported
pub mod NothingLost
