-- Numbers over storage: the readings that records and store hold, what the functions require, and the parts that their loops and
-- recursions have done or have still to do.
pub mod Readings
pub mod Ready
pub mod Parts
pub mod Linked
pub mod Facts
