-- The laws, lowest first.
pub mod Unique
pub mod Exactly
pub mod Facts
