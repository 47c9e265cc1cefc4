-- What the steps ask of an area, and leave.
use Rattle.area.specs.Encoding.{Area, held_of}
use Rattle.soundness.specs.Sound.{Sound, LongEnough}
use Rattle.encoding.specs.Encodes.{WellFormed}

-- A sound area in storage that is long enough, its records well-formed, as those that are read from cells are (`EncodingFacts.well-formed`).
pub record ValidArea (a : Area) : Type 0 where
  pub sound : Sound a
  pub lent : LongEnough a
  pub well_formed : WellFormed (held_of a)
