-- The laws, lowest first.
pub mod Blocks
pub mod Deliveries
pub mod Stepping
pub mod Reports
pub mod Whole
pub mod Counted
pub mod Ends
pub mod NamedBytes
pub mod Facts
pub mod Course
pub mod Replay
pub mod Cases
