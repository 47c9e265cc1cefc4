-- The laws, lowest first.
pub mod Places
pub mod Walks
pub mod WalkInvariants
pub mod Steps
pub mod Tensors
pub mod AtLevel
pub mod Rounds
pub mod Running
pub mod Held
pub mod Raised
pub mod Delivered
pub mod Subsets
pub mod Totals
pub mod Largest
pub mod Encoded
pub mod Required
pub mod Facts
