-- The laws, lowest first.
pub mod Cells
pub mod Places
pub mod Links
pub mod Store
pub mod Ranges
pub mod Forth
pub mod Back
pub mod Facts
