-- What the counts of the code stand for, and the report of doubles.
pub mod Answer
pub mod Doubles
