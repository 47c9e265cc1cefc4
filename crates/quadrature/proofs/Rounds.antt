-- One round of the loop of a full tensor rule along an axis: what holds before it, and that it holds again after it.
-- The idea: the record stands at the level and the sum has the levels below; after the last level it is all.
-- Assumes nothing.
use mathlib.Core.Path.{◌≡◌, refl, sym, ap, ap₂, ◌∙◌, subst}
use mathlib.Core.List.{List, ◌∷◌}
use Prim.Native.Nat.{ℕ, ◌+◌, ◌*◌, ◌^◌, ◌<◌, ◌≤◌}
use native.Mathlib.Omega.{arith}
use lib.IntN.{ℤ, pos, nat_abs, ◌+ℤ◌, ◌*ℤ◌}
use lib.ListN.{length, get_or, drop}
use mir.Syntax.{w64}
use mir.Val.{SFits, to_z, of_z}
use Rattle.sums.proofs.Words.{back, back_small, small_fits}
use Rattle.area.specs.Encoding.{none}
use Rattle.rule.specs.Points.{new_count}
use Rattle.rule.specs.Weights.{whole_weight}
use Rattle.grid.specs.Index.{level}
use Rattle.grid.specs.Difference.{Readings, units}
use Rattle.grid.specs.Tensor.{tensor_sum}
use Rattle.grid.specs.Terms.{InRange}
use Rattle.grid.proofs.Levels.{Levels, within_levels}
use Rattle.grid.proofs.LoopSteps.{axis_left, levels_drop}
use Rattle.area.specs.declared.IndexRecord.{IndexRecord}
use Rattle.quadrature.specs.Readings.{record_at}
use Rattle.quadrature.specs.Ready.{Ready, WalkInvariant}
use Rattle.quadrature.specs.Parts.{left_at, points_done, tensor_done}
use Rattle.quadrature.proofs.WalkInvariants.{link_is, invariant_higher, level_higher, left_higher, left_range}
use Rattle.quadrature.proofs.Tensors.{done_start, done-level, done_all, level-size, levels-size, units_room}

-- before a round: the record at `at` stands at level l, before the same readings as the one at which the loop began; `total` is the sum so far
pub record Round (rs : List IndexRecord) (s : List ℤ) (k : List ℕ) (axis place rank top : ℕ) (total : ℤ) (l at : ℕ) : Type 0 where
  pub low : 1 ≤ l
  pub high : l ≤ top
  pub is_top : top ≡ level k axis
  pub invariant : WalkInvariant rs k axis at rank
  pub here : level (record_at rs at).levels axis ≡ l
  pub same : left_at rs s axis at rank ≡ left_at rs s axis place rank
  pub sum : total ≡ tensor_done top l 0 (drop (axis + 1) k) (left_at rs s axis place rank)

module _ {d : ℕ} {rs : List IndexRecord} {s : List ℤ} {k : List ℕ} (ready : Ready d rs s k) {axis : ℕ} (a : axis < d) where
  below_eight : axis < 8
  below_eight = omega (arith, ready.axes)

  inside : axis < length k
  inside = omega (arith, ready.axes, ready.eight)

  pub round_start : {place rank top : ℕ} → WalkInvariant rs k axis place rank → level (record_at rs place).levels axis ≡ 1 → top ≡ level k axis
      → Round rs s k axis place rank top (pos 0) 1 place
  round_start {place} {rank} {top} st e t =
      record {
        low = omega arith;
        high = omega (arith, t, ready.ceilings.low axis inside);
        is_top = t;
        invariant = st;
        here = e;
        same = refl;
        sum = sym (done_start top (drop (axis + 1) k) (left_at rs s axis place rank));
      }

  module _ {place rank top l at : ℕ} {total : ℤ} (st : WalkInvariant rs k axis place rank) (round : Round rs s k axis place rank top total l at) where
    abbrev Q : Readings
    Q = left_at rs s axis place rank

    abbrev ks : List ℕ
    ks = drop (axis + 1) k

    each : Levels 8 ks
    each = levels_drop 8 k (axis + 1) (within_levels k ready.ceilings)

    axis_is : drop axis k ≡ top ∷ ks
    axis_is = axis_left k axis inside ∙ ap (λ x. x ∷ ks) (sym round.is_top)

    range : InRange (top ∷ ks) Q
    range = subst (λ m. InRange m Q) axis_is (left_range ready st)

    room : 2 ^ units (top ∷ ks) * 1048576 ≤ 2 ^ 40
    room = subst (λ m. 2 ^ units m * 1048576 ≤ 2 ^ 40) axis_is (units_room k axis ready.eight ready.ceilings)

    -- the rule of the later axes below the level, and what the round adds
    abbrev below : ℤ
    below = points_done (new_count l) l ks Q

    abbrev next : ℤ
    next = tensor_done top (l + 1) 0 ks Q

    next_small : nat_abs next ≤ 2 ^ 62
    next_small = omega (arith, levels-size 8 top ks Q each range l round.high, room)

    -- the weight is w, and the points of the level have come to r
    module _ {n : ℕ} {w r : ℤ} (w_is : w ≡ whole_weight top l) (w_fits : SFits w64 w) (r_is : r ≡ points_done n l ks (left_at rs s axis at rank)) (all : n ≡ new_count l) where
      below_is : r ≡ below
      below_is = r_is ∙ ap₂ (λ m q. points_done m l ks q) all round.same

      product_small : nat_abs (w *ℤ below) ≤ 2 ^ 62
      product_small =
          subst (λ v. nat_abs (v *ℤ below) ≤ 2 ^ 62) (sym w_is)
          (omega (arith, level-size 8 top ks Q each range l round.low round.high, room))

      abbrev product : ℤ
      product = to_z w64 (of_z w64 w) *ℤ r

      product_is : product ≡ w *ℤ below
      product_is = ap₂ ◌*ℤ◌ (back w w_fits) below_is

      size : nat_abs product ≤ 2 ^ 62
      size = subst (λ v. nat_abs v ≤ 2 ^ 62) (sym product_is) product_small

      pub product_fits_here : SFits w64 product
      product_fits_here = small_fits product size

      abbrev sum : ℤ
      sum = total +ℤ to_z w64 (of_z w64 product)

      sum_is : sum ≡ next
      sum_is =
          ap₂ ◌+ℤ◌ round.sum (back_small product size ∙ product_is ∙ ap (λ v. v *ℤ below) w_is)
          ∙ done-level top ks Q l round.low

      pub sum_fits : SFits w64 sum
      sum_fits = subst (λ y. SFits w64 y) (sym sum_is) (small_fits next next_small)

      -- the sum as it is read back
      read : to_z w64 (of_z w64 sum) ≡ next
      read = ap (λ y. to_z w64 (of_z w64 y)) sum_is ∙ back_small next next_small

      -- to the next level, along the link
      pub round_higher : {p : ℕ} → l < top → p ≡ get_or (record_at rs at).links axis none → Round rs s k axis place rank top (to_z w64 (of_z w64 sum)) (l + 1) p
      round_higher h e =
          subst (λ p. Round rs s k axis place rank top (to_z w64 (of_z w64 sum)) (l + 1) p) (sym (e ∙ link_is ready round.invariant below_eight under))
          (record {
            low = omega arith;
            high = omega arith;
            is_top = round.is_top;
            invariant = invariant_higher ready round.invariant below_eight under;
            here = level_higher ready round.invariant below_eight under ∙ ap (λ x. x + 1) round.here;
            same = left_higher ready round.invariant below_eight under ∙ round.same;
            sum = read;
          })
        where
          under : level (record_at rs at).levels axis < level k axis
          under = omega (arith, round.here, round.is_top)

      -- after the last level
      pub round_end : top ≤ l → to_z w64 (of_z w64 sum) ≡ tensor_sum (drop axis k) Q
      round_end h =
          let e : l ≡ top = omega (arith, round.high) in
          read ∙ ap (λ x. tensor_done top (x + 1) 0 ks Q) e ∙ done_all top ks Q ∙ ap (λ m. tensor_sum m Q) (sym axis_is)
