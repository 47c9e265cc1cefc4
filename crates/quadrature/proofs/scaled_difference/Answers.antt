-- `quadrature::scaled_difference` meets its contract: the walk from the root is the difference, and the shift makes it whole.
-- Assumes nothing.
use borrow.Author.Rules.{sfits_of}
use mathlib.Core.Path.{◌≡◌, sym, ap, ◌∙◌, subst}
use mathlib.Core.List.{List}
use Prim.Native.Nat.{ℕ, ◌*◌, ◌-◌, ◌^◌, ◌≤◌}
use native.Mathlib.Omega.{arith}
use lib.IntN.{ℤ, pos, nat_abs, ◌*ℤ◌}
use lib.Pow.{pow_mono}
use Rattle.sums.proofs.Ring.{one-*ℤ}
use Rattle.sums.proofs.Words.{back}
use Rattle.grid.specs.Difference.{units, scaled_difference, difference_walk}
use Rattle.grid.proofs.Differences.{difference_size}
use Rattle.grid.proofs.Levels.{units_small}
use Rattle.grid.proofs.Rules.{difference_walk_lem}
use Rattle.area.specs.declared.IndexRecord.{IndexRecord}
use Rattle.quadrature.specs.Readings.{stored_reading}
use Rattle.quadrature.specs.Ready.{Ready}
use Rattle.quadrature.specs.Parts.{left_at, walk_left}
use Rattle.quadrature.proofs.WalkInvariants.{invariant_start, first-level}
use Rattle.quadrature.proofs.Walks.{left_all, walk_all}
use Rattle.quadrature.proofs.scaled_difference.Goals as goal

module _ {d : ℕ} {rs : List IndexRecord} {s : List ℤ} {k : List ℕ} (ready : Ready d rs s k) where
  units_in : units k ≤ 20
  units_in = units_small k ready.eight ready.ceilings

  room_start : 1 * 2 ^ units k ≤ 2 ^ 20
  room_start = omega (arith, pow_mono {i = units k} {j = 20} units_in)

  -- the walk from the root gives the difference in the units of k
  walk_is : (x : ℤ) → x ≡ pos 1 *ℤ walk_left d k 0 1 (left_at rs s 0 0 0) → pos (2 ^ (20 - units k)) *ℤ x ≡ scaled_difference k (stored_reading rs s)
  unfolding scaled_difference
  walk_is x e =
      ap (λ y. pos (2 ^ (20 - units k)) *ℤ y)
      (e ∙ one-*ℤ (walk_left d k 0 1 (left_at rs s 0 0 0)) ∙ walk_all d k 0 (left_at rs s 0 0 0) (omega (arith, ready.axes, ready.eight))
      ∙ ap (difference_walk k) (left_all (stored_reading rs s)) ∙ sym (difference_walk_lem k (stored_reading rs s)))

  small : nat_abs (scaled_difference k (stored_reading rs s)) ≤ 2 ^ 40
  small = difference_size k (stored_reading rs s) ready.eight ready.ceilings ready.range

pub level_walk-sum-requires : goal.level_walk-sum-requires
level_walk-sum-requires c =
    let ready = c.requires in
    record {
      stands = invariant_start ready;
      axis_le_axes = (omega arith, λ h. sym (first-level ready));
      target_bound = room_start ready;
    }

pub scaled-requires : goal.scaled-requires
scaled-requires c =
    let ready = c.requires in
    subst (λ x. nat_abs x ≤ 2 ^ 40) (sym (walk_is ready _ (back c.level_walk-sum.result (sfits_of c.level_walk-sum.type_inv) ∙ c.level_walk-sum.ensures))) (small ready)

pub returns : goal.returns
returns c =
    let ready = c.requires in
    let e = back c.scaled.result (sfits_of c.scaled.type_inv) ∙ c.scaled.ensures ∙ walk_is ready _ (back c.level_walk-sum.result (sfits_of c.level_walk-sum.type_inv) ∙ c.level_walk-sum.ensures) in
    record {
      is = e;
      small = subst (λ x. nat_abs x ≤ 2 ^ 40) (sym e) (small ready);
    }
