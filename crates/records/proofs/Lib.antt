-- The laws, lowest first.
pub mod Overs
pub mod Cuts
pub mod Fronts
pub mod Longer
pub mod Lent
pub mod Stored
pub mod Started
pub mod Typed
pub mod Facts
pub mod WellFormed
pub mod Unwritten
pub mod PendingError
