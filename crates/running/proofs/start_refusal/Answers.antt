-- `running::start_refusal` meets its contract: axes out of range name the header's first field, and every other cause the budget. Assumes nothing.
use Rattle.std.proofs.Common.{◌≡◌, refl, ap, sym}
use Rattle.calls.specs.declared.cause.Cause.{Cause}
use Rattle.calls.specs.declared.cause.Cause.TheVariants.{AxesOutOfRange, BudgetOutOfRange, StorageTooShort, AreaNotSound, NothingWanted, BlockWanted, ReadingsMiscounted, ReadingOutOfRange, PointPastBlock, PlaceNotActive}
use Rattle.calls.specs.Cause.{number_of_cause}
use Rattle.running.specs.Execution.{start_byte}
use Rattle.running.proofs.start_refusal.Goals as goal

other : (x : Cause) → (x ≡ AxesOutOfRange → ⊥) → 4 ≡ start_byte (number_of_cause x)
unfolding start_byte
other AxesOutOfRange f = absurd (f refl)
other BudgetOutOfRange f = refl
other StorageTooShort f = refl
other AreaNotSound f = refl
other NothingWanted f = refl
other BlockWanted f = refl
other ReadingsMiscounted f = refl
other ReadingOutOfRange f = refl
other PointPastBlock f = refl
other PlaceNotActive f = refl

pub returns-in-AxesOutOfRange-clause-byte : goal.returns-in-AxesOutOfRange-clause-byte
unfolding start_byte
returns-in-AxesOutOfRange-clause-byte c = sym (ap (λ x. start_byte (number_of_cause x)) c.in-AxesOutOfRange.is)

pub returns-in_default : goal.returns-in_default
returns-in_default c = record { cause = refl; byte = other c.args.cause c.in_default.not-AxesOutOfRange }
