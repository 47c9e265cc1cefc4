-- The laws, lowest first.
pub mod Levels
pub mod Forth
pub mod Back
pub mod Exactly
pub mod Settings
pub mod Tests
pub mod Lower
pub mod Sizes
pub mod Totals
pub mod Clauses
pub mod Gives
pub mod Down
pub mod Facts
