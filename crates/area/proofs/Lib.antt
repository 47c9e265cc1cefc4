-- The laws, lowest first.
pub mod Readings
pub mod Slices
pub mod Records
pub mod Cells
pub mod Lookups
pub mod LookupPlaces
pub mod Packs
pub mod PackedRuns
pub mod Views
pub mod Carried
pub mod Facts
pub mod Rules
