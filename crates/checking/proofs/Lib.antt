-- What the functions' answers share, lowest first.
pub mod Each
pub mod Sums
pub mod Passes
pub mod Bounds
pub mod Ceilings
pub mod Blocks
pub mod Whole
