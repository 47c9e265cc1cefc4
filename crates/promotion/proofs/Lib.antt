-- Laws of the search for neighbours to admit, lowest first.
pub mod Heads
pub mod Best
pub mod Marks
pub mod Admits
pub mod Olds
pub mod Refining
pub mod Choosing
