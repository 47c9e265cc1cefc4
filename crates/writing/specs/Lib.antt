-- What each step of the machine changes in storage.
pub mod Changes
pub mod Heads
pub mod ValidArea
pub mod Facts
