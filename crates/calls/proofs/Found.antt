-- A cause that a function found: its number is not 0, `?` hands it on as it is, and what storage or area refuses, every later test refuses too.
-- Assumes nothing.
use mathlib.Core.Path.{◌≡◌, refl, sym, ◌∙◌}
use Prim.Native.Nat.{ℕ, ◌≤◌}
use native.Mathlib.Omega.{arith}
use lib.IntN.{ℤ}
use mathlib.Core.List.{List}
use Rattle.std.specs.Prelude.{Result, Err, IsErr, IsErrAnd}
use Rattle.std.proofs.lemmas.Result.{err_from_is_err_and}
use Rattle.area.specs.Encoding.{Area, machine_of}
use Rattle.soundness.specs.Clauses.{is_sound}
use Rattle.calls.specs.declared.cause.Cause.{Cause}
use Rattle.calls.specs.declared.cause.Cause.TheVariants.{AxesOutOfRange, BudgetOutOfRange, StorageTooShort, AreaNotSound, NothingWanted, BlockWanted, ReadingsMiscounted, ReadingOutOfRange, PointPastBlock, PlaceNotActive}
use Rattle.calls.specs.Cause.{number_of_cause}
use Rattle.calls.specs.Replies.{lengths_of}
use Rattle.calls.specs.Calls.{point_cause, deliver_cause, choose_cause, promote_cause, area_cause}
use Rattle.calls.proofs.Causes.{choose_common, promote_as_choose, deliver_common, point_common}

pub not_zero : (d : Cause) → number_of_cause d ≡ 0 → ⊥
not_zero AxesOutOfRange e = omega (arith, e)
not_zero BudgetOutOfRange e = omega (arith, e)
not_zero StorageTooShort e = omega (arith, e)
not_zero AreaNotSound e = omega (arith, e)
not_zero NothingWanted e = omega (arith, e)
not_zero BlockWanted e = omega (arith, e)
not_zero ReadingsMiscounted e = omega (arith, e)
not_zero ReadingOutOfRange e = omega (arith, e)
not_zero PointPastBlock e = omega (arith, e)
not_zero PlaceNotActive e = omega (arith, e)

pub handed_on : {A : Type 0} (r : Result A Cause) (d : Cause) → IsErr r × IsErrAnd r (λ e. e ≡ d) → r ≡ Err d
handed_on r d e = let p = err_from_is_err_and r e.1 in rw (p.1, p.2) refl

module _ (a : Area) (d : Cause) where
  module _ (is : number_of_cause d ≡ area_cause a) where
    pub choose_refused : number_of_cause d ≡ choose_cause a
    choose_refused = is ∙ sym (choose_common (lengths_of a) (is_sound a) (machine_of a).log (λ e. not_zero d (is ∙ e)))

    pub deliver_refused : (rs : List ℤ) → number_of_cause d ≡ deliver_cause a rs
    deliver_refused rs = is ∙ sym (deliver_common (lengths_of a) (is_sound a) (machine_of a).log rs (λ e. not_zero d (is ∙ e)))

    pub point_refused : (n w : ℕ) → a.job.settings.axes ≤ w → number_of_cause d ≡ point_cause a n w
    unfolding machine_of
    point_refused n w room = is ∙ sym (point_common (lengths_of a) (is_sound a) (machine_of a).log n w room (λ e. not_zero d (is ∙ e)))

  pub promote_refused : (p : ℕ) → number_of_cause d ≡ choose_cause a → number_of_cause d ≡ promote_cause a p
  promote_refused p is = is ∙ sym (promote_as_choose (lengths_of a) (is_sound a) (machine_of a).log p (λ e. not_zero d (is ∙ e)))
