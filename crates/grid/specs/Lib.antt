-- The grid: definitions, in the order of the scope document's "Blocks and differences", then what is proved of them.
pub mod Index
pub mod Block
pub mod Difference
pub mod Coefficient
pub mod Tensor
pub mod Cross
pub mod Terms
pub mod Largest
pub mod Facts
pub mod Trapezoidal
pub mod Smolyak
pub mod Boundary
