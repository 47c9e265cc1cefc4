-- What a caller of an export learns.
pub mod Functions
