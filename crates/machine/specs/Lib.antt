-- The published algorithm on a list of entries: what is wanted, the steps, what refuses a call, and what is counted. `Areas` says what the
-- steps are on an area.
pub mod Log
pub mod Choose
pub mod Promote
pub mod Admitted
pub mod Steps
pub mod Points
pub mod Areas
pub mod Causes
pub mod Counts
pub mod Facts
pub mod Means
pub mod Largest
