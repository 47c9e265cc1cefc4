-- Laws of words, and of what a refusal leaves.
pub mod Facts
pub mod Refusals
