-- The laws, lowest first.
pub mod Answers
pub mod Places
pub mod Steps
pub mod Endings
pub mod Loops
pub mod Facts
