-- Why a call is refused, by the scope document's number for each case. Number 10, a malformed job file, is no cause of a call.
use Rattle.std.specs.Prelude.{ℕ, Result, Ok, Err}
use Rattle.calls.specs.declared.cause.Cause.{Cause}
use Rattle.calls.specs.declared.cause.Cause.TheVariants.{AxesOutOfRange, BudgetOutOfRange, StorageTooShort, AreaNotSound, NothingWanted, BlockWanted, ReadingsMiscounted, ReadingOutOfRange, PointPastBlock, PlaceNotActive}

abbrev pub number_of_cause : Cause → ℕ
number_of_cause AxesOutOfRange = 1
number_of_cause BudgetOutOfRange = 2
number_of_cause StorageTooShort = 3
number_of_cause AreaNotSound = 4
number_of_cause NothingWanted = 5
number_of_cause BlockWanted = 6
number_of_cause ReadingsMiscounted = 7
number_of_cause ReadingOutOfRange = 8
number_of_cause PointPastBlock = 9
number_of_cause PlaceNotActive = 11

-- The number of the cause that a function found, 0 if it found none.
abbrev pub cause_of : {A : Type 0} → Result A Cause → ℕ
cause_of (Ok x) = 0
cause_of (Err c) = number_of_cause c
