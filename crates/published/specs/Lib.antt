-- The published algorithm in the source's own words, and that the machine's steps are its lines.
pub mod Figure
pub mod Turns
pub mod Sums
pub mod Increments
pub mod Facts
