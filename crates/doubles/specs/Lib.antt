-- Whole numbers as IEEE doubles: the double nearest to a fraction, what it means that nothing is lost, and that it is so.
pub mod Double
pub mod Exact
pub mod Facts
