-- Where a walk stands: at the root to begin with, one level higher along a forward link, one axis further at each point; and the
-- readings that it then has before it are in range.
-- Assumes nothing.
use mathlib.Core.Path.{◌≡◌, refl, sym, ap, ap₂, ◌∙◌, subst}
use mathlib.Core.List.{List, [], ◌∷◌, ◌++◌}
use Prim.Native.Nat.{ℕ, zero, suc, ◌+◌, ◌*◌, ◌-◌, ◌<◌, ◌≤◌}
use native.Mathlib.Decide.{ℕ_discrete}
use native.Mathlib.Nat as NatL
use native.Mathlib.Nat.{le_refl, le_trans, le_of_eq, mul-le-mul}
use native.Mathlib.Numerals.{add-one}
use native.Mathlib.Omega.{arith}
use lib.Arith.{digits_lt}
use lib.IntN.{ℤ, pos}
use lib.ListN.{length, get_or, take, drop, replicate, take-append-drop, length-drop, length-replicate, get_or-replicate}
use lib.Seq.{take-suc, take-set-le, ext_get_or, get_or-drop}
use Rattle.area.specs.Encoding.{none}
use Rattle.rule.specs.Points.{new_count}
use Rattle.grid.specs.Index.{level, root, forward, NowhereHigher}
use Rattle.grid.specs.Block.{block_size}
use Rattle.grid.specs.Terms.{IsReading, InRange}
use Rattle.grid.proofs.Levels.{Levels, levels_from}
use Rattle.grid.proofs.LoopSteps.{size-pos, levels_drop}
use Rattle.grid.proofs.Neighbours.{root-level, forward_level, forward_other, forward_length}
use Rattle.area.specs.declared.IndexRecord.{IndexRecord}
use Rattle.quadrature.specs.Readings.{record_at, place_in, stored_reading}
use Rattle.quadrature.specs.Ready.{Ready, WalkInvariant}
use Rattle.quadrature.specs.Parts.{left, left_at}
use Rattle.quadrature.proofs.Places.{place_levels, place_inside, below_none, higher_append, higher_take, size-append}

-- the rank past an axis with one point
rank_only : (r : ℕ) → r * 1 + 0 ≡ r
rank_only r = omega arith

module _ {d : ℕ} {rs : List IndexRecord} {s : List ℤ} {k : List ℕ} (ready : Ready d rs s k) where
  -- the root is nowhere higher than any index
  root-lower : NowhereHigher root k
  unfolding root
  root-lower =
      record {
        axes = sym ready.eight;
        low = λ a h. subst (λ x. 1 ≤ x) (sym (root-level a (eight h))) (omega arith);
        high = λ a h. subst (λ x. x ≤ level k a) (sym (root-level a (eight h))) (ready.ceilings.low a h);
      }
    where
      eight : {a : ℕ} → a < length k → a < 8
      eight h = let e : length k ≡ 8 = ready.eight in omega arith

  at_root : (record_at rs 0).levels ≡ root
  at_root =
      subst (λ p. (record_at rs p).levels ≡ root) ready.root_place (place_levels rs root (below_none (ready.found root root-lower)))

  pub invariant_start : WalkInvariant rs k 0 0 0
  unfolding block_size
  invariant_start =
      record {
        inside = omega arith;
        own = ap (place_in rs) at_root ∙ ready.root_place;
        lower = subst (λ l. NowhereHigher l k) (sym at_root) root-lower;
        ones = λ b h q. ap (λ l. level l b) at_root ∙ root-level b q;
        in_block = omega arith;
      }

  pub first-level : level (record_at rs 0).levels 0 ≡ 1
  first-level = ap (λ l. level l 0) at_root ∙ root-level 0 (omega arith)

  module _ {axis place rank : ℕ} (st : WalkInvariant rs k axis place rank) where
    abbrev levels : List ℕ
    levels = (record_at rs place).levels

    pub eight_levels : length levels ≡ 8
    eight_levels = st.lower.axes ∙ ready.eight

    pub place_in_lem : place < length rs
    place_in_lem = subst (λ p. p < length rs) st.own (place_inside rs levels (below_none (subst (λ p. p < 512) (sym st.own) st.inside)))

    -- ---- one level higher

    module _ (a : axis < 8) (below : level levels axis < level k axis) where
      abbrev raised : List ℕ
      raised = forward levels axis

      raised_lower : NowhereHigher raised k
      raised_lower =
          record {
            axes = forward_length levels axis ∙ st.lower.axes;
            low = λ b h. low b h (ℕ_discrete b axis);
            high = λ b h. high b h (ℕ_discrete b axis);
          }
        where
          inside : axis < length levels
          inside = let e : length levels ≡ 8 = eight_levels in omega arith

          low : (b : ℕ) → b < length k → Dec (b ≡ axis) → 1 ≤ level raised b
          low b h (yes e) = subst (λ c. 1 ≤ level raised c) (sym e) (subst (λ x. 1 ≤ x) (sym (forward_level levels axis inside)) (omega arith))
          low b h (no f) = subst (λ x. 1 ≤ x) (sym (forward_other levels axis b f)) (st.lower.low b h)

          high : (b : ℕ) → b < length k → Dec (b ≡ axis) → level raised b ≤ level k b
          high b h (yes e) = subst (λ c. level raised c ≤ level k c) (sym e) (subst (λ x. x ≤ level k axis) (sym (forward_level levels axis inside)) below)
          high b h (no f) = subst (λ x. x ≤ level k b) (sym (forward_other levels axis b f)) (st.lower.high b h)

      -- the link names the place of the raised index
      pub link_is : get_or (record_at rs place).links axis none ≡ place_in rs raised
      link_is =
          subst (λ p. get_or (record_at rs p).links axis none ≡ place_in rs raised) st.own (ready.ahead levels axis a st.lower raised_lower)

      raised_at : (record_at rs (place_in rs raised)).levels ≡ raised
      raised_at = place_levels rs raised (below_none (ready.found raised raised_lower))

      same_front : take axis (record_at rs (place_in rs raised)).levels ≡ take axis levels
      unfolding forward
      same_front = ap (take axis) raised_at ∙ take-set-le axis levels axis (level levels axis + 1) (omega arith)

      pub invariant_higher : WalkInvariant rs k axis (place_in rs raised) rank
      invariant_higher =
          record {
            inside = ready.found raised raised_lower;
            own = ap (place_in rs) raised_at;
            lower = subst (λ l. NowhereHigher l k) (sym raised_at) raised_lower;
            ones = λ b h q. ap (λ l. level l b) raised_at ∙ forward_other levels axis b (λ e. omega arith) ∙ st.ones b h q;
            in_block = subst (λ l. rank < block_size l) (sym same_front) st.in_block;
          }

      pub level_higher : level (record_at rs (place_in rs raised)).levels axis ≡ level levels axis + 1
      level_higher =
          ap (λ l. level l axis) raised_at ∙ forward_level levels axis (let e : length levels ≡ 8 = eight_levels in omega arith) ∙ sym (add-one (level levels axis))

      pub left_higher : left_at rs s axis (place_in rs raised) rank ≡ left_at rs s axis place rank
      left_higher = ap (λ l. left (stored_reading rs s) l rank) same_front

    -- ---- one axis further

    module _ (a : axis < 8) where
      pub take_next : take (axis + 1) levels ≡ take axis levels ++ (level levels axis ∷ [])
      take_next = rw (add-one axis) (take-suc levels axis 0 (let e : length levels ≡ 8 = eight_levels in omega arith))

      size_next : block_size (take (axis + 1) levels) ≡ block_size (take axis levels) * new_count (level levels axis)
      unfolding block_size
      size_next = ap block_size take_next ∙ size-append (take axis levels) (level levels axis ∷ []) ∙ ap (λ x. block_size (take axis levels) * x) (NatL.mul-one (new_count (level levels axis)))

      pub invariant_further : (n : ℕ) → n < new_count (level levels axis) → WalkInvariant rs k (axis + 1) place (rank * new_count (level levels axis) + n)
      invariant_further n h =
          record {
            inside = st.inside;
            own = st.own;
            lower = st.lower;
            ones = λ b q c. st.ones b (omega arith) c;
            in_block = subst (λ x. rank * new_count (level levels axis) + n < x) (sym size_next) (digits_lt st.in_block h);
          }

    -- ---- the readings left are in range

    pub left_range : InRange (drop axis k) (left_at rs s axis place rank)
    unfolding left
    left_range ls n h b =
        ready.range (take axis levels ++ ls) (rank * block_size ls + n)
        (subst (λ x. NowhereHigher (take axis levels ++ ls) x) (take-append-drop axis k) (higher_append (take axis levels) (take axis k) ls (drop axis k) (higher_take levels k axis st.lower) h))
        (subst (λ x. rank * block_size ls + n < x) (sym (size-append (take axis levels) ls)) (digits_lt st.in_block b))

    -- ---- a rank is a place in the store

    each_level : Levels 8 levels
    each_level =
        levels_from 8 levels (λ a h. st.lower.low a (subst (λ n. a < n) st.lower.axes h))
        (λ a h. le_trans (st.lower.high a (subst (λ n. a < n) st.lower.axes h)) (ready.ceilings.high a (subst (λ n. a < n) st.lower.axes h)))

    front-size : block_size (take axis levels) ≤ block_size levels
    front-size =
        le_trans (le_of_eq (sym (NatL.mul-one (block_size (take axis levels)))))
        (le_trans (mul-le-mul (le_refl (block_size (take axis levels))) (size-pos 8 (drop axis levels) (levels_drop 8 levels axis each_level)))
        (le_of_eq (sym (size-append (take axis levels) (drop axis levels)) ∙ ap block_size (take-append-drop axis levels))))

    pub rank_in_lem : rank < length s
    rank_in_lem =
        let r : (record_at rs (place_in rs levels)).first + block_size levels ≤ length s = ready.room levels st.lower in
        omega (arith, st.in_block, front-size)

    -- ---- behind the last axis: the reading itself

    module _ (e : axis ≡ d) where
      ones_behind : drop axis levels ≡ replicate (8 - axis) 1
      ones_behind =
          ext_get_or 0 (drop axis levels) (replicate (8 - axis) 1) (length-drop axis levels ∙ ap (λ n. n - axis) eight_levels ∙ sym (length-replicate (8 - axis) 1)) (λ i h.
          get_or-drop axis levels i 0 ∙ one (axis + i) (omega arith) (small i h) ∙ sym (get_or-replicate (8 - axis) i 1 0 (small' i h)))
        where
          small' : (i : ℕ) → i < length (drop axis levels) → i < 8 - axis
          small' i h = omega (arith, length-drop axis levels, eight_levels)

          small : (i : ℕ) → i < length (drop axis levels) → axis + i < 8
          small i h = omega (arith, small' i h)

          one : (b : ℕ) → axis ≤ b → b < 8 → level levels b ≡ 1
          one b p q =
              let in_k : b < length k = let z : length k ≡ 8 = ready.eight in omega arith in
              omega (arith, st.lower.low b in_k, st.lower.high b in_k, ready.beyond b (omega arith) q)

      pub target_ones : drop axis k ≡ replicate (8 - axis) 1
      target_ones =
          ext_get_or 0 (drop axis k) (replicate (8 - axis) 1) (length-drop axis k ∙ ap (λ n. n - axis) ready.eight ∙ sym (length-replicate (8 - axis) 1)) (λ i h.
          get_or-drop axis k i 0 ∙ ready.beyond (axis + i) (omega arith) (omega (arith, length-drop axis k, ready.eight)) ∙ sym (get_or-replicate (8 - axis) i 1 0 (omega (arith, length-drop axis k, ready.eight))))

      -- the whole level list again
      pub whole_levels : take axis levels ++ replicate (8 - axis) 1 ≡ levels
      whole_levels = ap (λ x. take axis levels ++ x) (sym ones_behind) ∙ take-append-drop axis levels

      ones_size : (m : ℕ) → block_size (replicate m 1) ≡ 1
      unfolding block_size new_count
      ones_size zero = refl
      ones_size (suc m) = rw (ones_size m)

      pub left_one : left_at rs s axis place rank (replicate (8 - axis) 1) 0 ≡ get_or s ((record_at rs place).first + rank) (pos 0)
      unfolding left stored_reading
      left_one =
          ap₂ (stored_reading rs s) whole_levels (ap (λ x. rank * x + 0) (ones_size (8 - axis)) ∙ rank_only rank)
          ∙ ap (λ p. get_or s ((record_at rs p).first + rank) (pos 0)) st.own

      size_levels : block_size (take axis levels) ≡ block_size levels
      size_levels =
          sym (NatL.mul-one (block_size (take axis levels))) ∙ ap (λ x. block_size (take axis levels) * x) (sym (ones_size (8 - axis)))
          ∙ sym (size-append (take axis levels) (replicate (8 - axis) 1)) ∙ ap block_size whole_levels

      pub reading_in_lem : (record_at rs place).first + rank < length s
      reading_in_lem =
          let r : (record_at rs (place_in rs levels)).first + block_size levels ≤ length s = ready.room levels st.lower in
          let q : (record_at rs place).first + block_size levels ≤ length s = subst (λ p. (record_at rs p).first + block_size levels ≤ length s) st.own r in
          let b : rank < block_size levels = subst (λ x. rank < x) size_levels st.in_block in
          omega arith

      pub reading_range : IsReading (get_or s ((record_at rs place).first + rank) (pos 0))
      unfolding stored_reading
      reading_range =
          subst (λ p. IsReading (get_or s ((record_at rs p).first + rank) (pos 0))) st.own
          (ready.range levels rank st.lower (subst (λ x. rank < x) size_levels st.in_block))
