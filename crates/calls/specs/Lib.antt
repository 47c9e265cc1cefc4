-- The calls: what each answers and leaves, for every area and all arguments.
pub mod Cause
pub mod Replies
pub mod Table
pub mod Calls
pub mod Facts
pub mod OwnCases
pub mod Points
pub mod Doubles
