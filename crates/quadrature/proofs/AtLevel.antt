-- Where a walk stands at a level of an axis, and goes on to the next level or below one of its new points.
-- The idea: the level is that of the record, from 1 to the axis's highest; a point's rank counts on from that of the axes passed.
-- Assumes nothing.
use mathlib.Core.Path.{◌≡◌, sym, ap, ◌∙◌, subst}
use mathlib.Core.List.{List, [], ◌∷◌, ◌++◌}
use Prim.Native.Nat.{ℕ, ◌+◌, ◌*◌, ◌-◌, ◌^◌, ◌<◌, ◌≤◌}
use native.Mathlib.Omega.{arith}
use lib.IntN.{ℤ, nat_abs, ◌+ℤ◌, ◌*ℤ◌}
use lib.ListN.{length, get_or, take, drop}
use mir.Syntax.{w64}
use mir.Val.{SFits, to_z, of_z}
use Rattle.sums.proofs.Words.{product_is}
use Rattle.rule.specs.Points.{new_count}
use Rattle.rule.specs.Weights.{difference_weight}
use Rattle.grid.specs.Index.{level, forward}
use Rattle.grid.specs.Difference.{Readings, units, behind, difference_walk}
use Rattle.grid.specs.Terms.{InRange}
use Rattle.grid.proofs.Levels.{within_levels}
use Rattle.grid.proofs.LoopSteps.{axis_left, levels_drop}
use Rattle.area.specs.declared.IndexRecord.{IndexRecord}
use Rattle.area.specs.Encoding.{none}
use Rattle.quadrature.specs.Readings.{record_at, place_in, stored_reading}
use Rattle.quadrature.specs.Ready.{Ready, WalkInvariant}
use Rattle.quadrature.specs.Parts.{left, left_at, points_left, walk_left}
use Rattle.quadrature.proofs.Walks.{behind-left, walk_all}
use Rattle.quadrature.proofs.WalkInvariants.{invariant_higher, level_higher, left_higher, link_is, take_next, invariant_further, left_range, rank_in_lem}
use Rattle.grid.specs.Tensor.{tensor_sum}
use native.Mathlib.Nat.{le_trans}
use Rattle.quadrature.proofs.Tensors.{point-size, units_room}
use Rattle.quadrature.proofs.Steps.{room_points, room_weight, level_adds, level_last, level-size, points_bound}

module _ {d : ℕ} {rs : List IndexRecord} {store : List ℤ} {k : List ℕ} {axis place rank l : ℕ} (ready : Ready d rs store k) (st : WalkInvariant rs k axis place rank) (a : axis < d) (level_is : l ≡ level (record_at rs place).levels axis) where
  pub below_eight : axis < 8
  below_eight = omega (arith, ready.axes)

  pub inside : axis < length k
  inside = omega (arith, ready.eight, below_eight)

  pub low : 1 ≤ l
  low = subst (λ x. 1 ≤ x) (sym level_is) (st.lower.low axis inside)

  pub high : l ≤ level k axis
  high = subst (λ x. x ≤ level k axis) (sym level_is) (st.lower.high axis inside)

  pub high_eight : l ≤ 8
  high_eight = omega (arith, high, ready.ceilings.high axis inside)

  -- the readings left to the walk, and those on the later axes
  abbrev pub Q : Readings
  Q = left_at rs store axis place rank

  abbrev pub ks : List ℕ
  ks = drop (axis + 1) k

  -- ---- the level walk

  module _ (w : ℤ) (room : nat_abs w * 2 ^ units (drop axis k) ≤ 2 ^ 20) where
    pub room_v : nat_abs (w *ℤ difference_weight (level k axis) l) * new_count l * 2 ^ units ks ≤ 2 ^ 20
    room_v = room_points k axis l w inside low high room

    pub v_small : nat_abs (w *ℤ difference_weight (level k axis) l) ≤ 2 ^ 62
    v_small = omega (arith, room_weight (w *ℤ difference_weight (level k axis) l) l (units ks) low room_v)

    -- the product of the weights, as the code works it out
    pub inner_is : (r : ℤ) → SFits w64 w → SFits w64 r → r ≡ difference_weight (level k axis) l
        → to_z w64 (of_z w64 (to_z w64 (of_z w64 w) *ℤ to_z w64 (of_z w64 r))) ≡ w *ℤ difference_weight (level k axis) l
    inner_is r f g e = product_is w r _ f g e v_small

    pub walk_small : nat_abs (w *ℤ walk_left d k axis l Q) ≤ 2 ^ 62
    walk_small =
        omega (arith, level-size d k axis l w Q (within_levels k ready.ceilings) inside a low high (left_range ready st) room)

  -- no higher level is left
  pub level_one : (w here : ℤ) → level k axis ≤ l → here ≡ (w *ℤ difference_weight (level k axis) l) *ℤ points_left (new_count l - 0) 0 l ks Q
      → here ≡ w *ℤ walk_left d k axis l Q
  level_one w = level_last d k axis l w Q (within_levels k ready.ceilings) inside a low high

  -- a higher level is left, at the place that the link names
  module _ (b : l < level k axis) (next : ℕ) (link : next ≡ get_or (record_at rs place).links axis none) where
    below : level (record_at rs place).levels axis < level k axis
    below = subst (λ x. x < level k axis) level_is b

    pub next_is : next ≡ place_in rs (forward (record_at rs place).levels axis)
    next_is = link ∙ link_is ready st below_eight below

    pub next_invariant : WalkInvariant rs k axis next rank
    next_invariant = subst (λ p. WalkInvariant rs k axis p rank) (sym next_is) (invariant_higher ready st below_eight below)

    pub next_level : l + 1 ≡ level (record_at rs next).levels axis
    next_level =
        subst (λ p. l + 1 ≡ level (record_at rs p).levels axis) (sym next_is)
        (ap (λ x. x + 1) level_is ∙ sym (level_higher ready st below_eight below))

    -- what both calls give comes to what this call is to return
    pub level_sum : (w here rest : ℤ) → here ≡ (w *ℤ difference_weight (level k axis) l) *ℤ points_left (new_count l - 0) 0 l ks Q
        → rest ≡ w *ℤ walk_left d k axis (l + 1) (left_at rs store axis next rank) → here +ℤ rest ≡ w *ℤ walk_left d k axis l Q
    level_sum w here rest e f =
        level_adds d k axis l w Q (within_levels k ready.ceilings) inside a low high here rest e
        (f ∙ ap (λ q. w *ℤ walk_left d k axis (l + 1) q) (ap (λ p. left_at rs store axis p rank) next_is ∙ left_higher ready st below_eight below))

  -- ---- the point walk

  module _ (p : ℕ) (point_in : p < new_count l) where
    pub further : WalkInvariant rs k (axis + 1) place (rank * new_count l + p)
    further =
        subst (λ m. WalkInvariant rs k (axis + 1) place (rank * new_count m + p)) (sym level_is)
        (invariant_further ready st below_eight p (subst (λ m. p < new_count m) level_is point_in))

    pub rank_small : rank * new_count l + p < length store
    rank_small = rank_in_lem ready further

    -- on the next axis it stands at level 1
    pub next_one : axis + 1 < d → level (record_at rs place).levels (axis + 1) ≡ 1
    next_one h = st.ones (axis + 1) (omega arith) (omega (arith, ready.axes))

    -- the readings left below the point
    pub further_left : left_at rs store (axis + 1) place (rank * new_count l + p) ≡ behind Q l p
    further_left =
        sym (behind-left (stored_reading rs store) (take axis (record_at rs place).levels) rank l p
        ∙ ap (λ m. left (stored_reading rs store) m (rank * new_count l + p))
        (ap (λ x. take axis (record_at rs place).levels ++ (x ∷ [])) level_is ∙ sym (take_next ready st below_eight)))

    pub points_small : (w : ℤ) → nat_abs w * new_count l * 2 ^ units ks ≤ 2 ^ 20 → nat_abs (w *ℤ points_left (new_count l - p) p l ks Q) ≤ 2 ^ 62
    points_small w room =
        omega (arith, points_bound ks l p w Q point_in (level k axis) (levels_drop 8 k (axis + 1) (within_levels k ready.ceilings)) (subst (λ m. InRange m Q) (axis_left k axis inside) (left_range ready st)) low high room)

    -- the full tensor rule below the point
    pub rule_small : nat_abs (tensor_sum ks (behind Q l p)) ≤ 2 ^ 40
    rule_small =
        le_trans (point-size 8 (level k axis) ks Q (levels_drop 8 k (axis + 1) (within_levels k ready.ceilings)) (subst (λ m. InRange m Q) (axis_left k axis inside) (left_range ready st)) l p low high point_in)
        (units_room k (axis + 1) ready.eight ready.ceilings)

    -- what the call below the point gives is that rule, where n is the count as the code has it
    pub rule_is : {n : ℕ} {r : ℤ} → n ≡ new_count l → r ≡ tensor_sum ks (left_at rs store (axis + 1) place (rank * n + p)) → r ≡ tensor_sum ks (behind Q l p)
    rule_is e f = f ∙ ap (tensor_sum ks) (ap (λ m. left_at rs store (axis + 1) place (rank * m + p)) e ∙ further_left)

    -- what the level walk below the point gives is the point's part, where n is the count as the code has it
    pub here_is : (w here : ℤ) (n : ℕ) → n ≡ new_count l → here ≡ w *ℤ walk_left d k (axis + 1) 1 (left_at rs store (axis + 1) place (rank * n + p))
        → here ≡ w *ℤ difference_walk ks (behind Q l p)
    here_is w here n e f =
        f
        ∙ ap (λ x. w *ℤ x)
        (walk_all d k (axis + 1) (left_at rs store (axis + 1) place (rank * n + p)) (omega (arith, ready.axes, ready.eight))
        ∙ ap (difference_walk ks) (ap (λ m. left_at rs store (axis + 1) place (rank * m + p)) e ∙ further_left))
