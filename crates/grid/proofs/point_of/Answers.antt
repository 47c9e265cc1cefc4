-- `grid::point_of` meets its contract: the positions passed are stored, their rank is carried, and the number left is that of the point
-- over the axes left. Assumes nothing.
use Rattle.std.proofs.Common.{◌≡◌, ◌<◌, ℕ, List, ◌∷◌, ◌++◌, ◌+◌, ◌*◌, ◌/◌, ◌%◌, length, take, drop, set, arith, refl, sym, ap, ap₂, ◌∙◌, subst}
use mathlib.Core.List.{append-nil}
use native.Mathlib.Nat.{le_trans, div-add-mod'}
use lib.ListN.{length-set}
use lib.Seq.{take_all}
use Rattle.rule.specs.Points.{new_count, new_point}
use Rattle.grid.specs.Index.{level, Within}
use Rattle.grid.specs.Block.{turned, block_size, point_after, point_of}
use Rattle.grid.proofs.Blocks.{high_digit, low_digit, carried}
use Rattle.grid.proofs.LoopSteps.{size_step, size-left-pos, size_small, factor_le, count_pos, count_out, point_step, point_done, store_next}
use Rattle.grid.proofs.point_of.Goals as goal

-- ---- one axis: its count taken out of the size, and the two digits of the number

module _ (k : List ℕ) (a s n : ℕ) (h : a < length k) (w : Within k) (e : s ≡ block_size (drop a k)) (p : n ≡ new_count (level k a)) where
  counted : 0 < n
  counted = subst (λ x. 0 < x) (sym p) (count_pos (level k a) (w.low a h))

  size_next : s / n ≡ block_size (drop (a + 1) k)
  size_next =
      ap (λ x. x / n) (e ∙ size_step k a h ∙ ap (λ c. c * block_size (drop (a + 1) k)) (sym p))
      ∙ count_out n (block_size (drop (a + 1) k)) counted

  size_next_pos : 0 < s / n
  size_next_pos = subst (λ x. 0 < x) (sym size_next) (size-left-pos k (a + 1) w)

  digits : (i : ℕ) → i < s → i < new_count (level k a) * (s / n)
  digits i q = subst (λ x. i < x) (e ∙ size_step k a h ∙ ap (λ x. new_count (level k a) * x) (sym size_next)) q

  first-digit : (i : ℕ) → i < s → i / (s / n) < new_count (level k a)
  first-digit i q = high_digit i (new_count (level k a)) (s / n) (digits i q)

  rest_digit : (i : ℕ) → i < s → i % (s / n) < s / n
  rest_digit i q = low_digit i (new_count (level k a)) (s / n) (digits i q)

  -- the rank that is carried
  size-whole : s ≡ n * (s / n)
  size-whole = e ∙ size_step k a h ∙ ap₂ ◌*◌ (sym p) (sym size_next)

  next_rank : (r i : ℕ) → (r * n + i / (s / n)) * (s / n) + i % (s / n) ≡ r * s + i
  next_rank r i = carried r n (i / (s / n)) (s / n) (i % (s / n)) ∙ ap₂ (λ x y. r * x + y) (sym size-whole) (div-add-mod' i (s / n))

  -- it is no more than the point's number, so it fits
  rank_small : (r i total : ℕ) → r * s + i ≡ total → total < block_size k → r * n + i / (s / n) < 4096
  rank_small r i total q below =
      le_trans (omega (arith, below, q, next_rank r i, factor_le (r * n + i / (s / n)) (s / n) ((r * n + i / (s / n)) * (s / n)) size_next_pos refl)) (size_small k w)

  next_point : (pt : List ℕ) (r i x : ℕ) → length pt ≡ 8 → a < 8 → x ≡ new_point (level k a) (turned r n (i / (s / n)))
      → take a pt ++ point_after r (drop a k) i ≡ take (a + 1) (set pt a x) ++ point_after (r * n + i / (s / n)) (drop (a + 1) k) (i % (s / n))
  next_point pt r i x l b q =
      ap (λ y. take a pt ++ y) (point_step r k a i h
      ∙ ap₂ (λ c d. new_point (level k a) (turned r c (i / d)) ∷ point_after (r * c + i / d) (drop (a + 1) k) (i % d)) (sym p) (sym size_next)
      ∙ ap (λ (y : ℕ). y ∷ point_after (r * n + i / (s / n)) (drop (a + 1) k) (i % (s / n))) (sym q))
      ∙ sym (store_next pt (point_after (r * n + i / (s / n)) (drop (a + 1) k) (i % (s / n))) a x (omega arith))

pub loop-axis-init : goal.loop-axis-init
unfolding point_of
loop-axis-init c =
    let size = c.block_size-size.ensures in
    record { eight = refl; size = size; left = subst (λ x. c.args.n < x) (sym size) c.requires.1; point = refl; rank = omega arith }

pub nonzero_div-size : goal.nonzero_div-size
nonzero_div-size c =
    let l = c.loop-axis in
    counted c.args.levels l.axis l.size c.new_count-count.result (omega arith) c.requires.0 l.invariant.size c.new_count-count.ensures

pub nonzero_div-q : goal.nonzero_div-q
nonzero_div-q c =
    let l = c.loop-axis in
    size_next_pos c.args.levels l.axis l.size c.new_count-count.result (omega arith) c.requires.0 l.invariant.size c.new_count-count.ensures

pub number_visited-requires : goal.number_visited-requires
number_visited-requires c =
    let l = c.loop-axis in
    let n = c.new_count-count in
    subst (λ x. l.left / (l.size / n.result) < x) (sym n.ensures)
    (first-digit c.args.levels l.axis l.size n.result (omega arith) c.requires.0 l.invariant.size n.ensures l.left l.invariant.left)

pub overflow_mul-rank : goal.overflow_mul-rank
overflow_mul-rank c =
    let l = c.loop-axis in
    omega (
      arith,
      rank_small c.args.levels l.axis l.size c.new_count-count.result (omega arith) c.requires.0 l.invariant.size c.new_count-count.ensures l.rank l.left c.args.n l.invariant.rank c.requires.1,
    )

pub overflow_add-rank : goal.overflow_add-rank
overflow_add-rank c =
    let l = c.loop-axis in
    omega (
      arith,
      rank_small c.args.levels l.axis l.size c.new_count-count.result (omega arith) c.requires.0 l.invariant.size c.new_count-count.ensures l.rank l.left c.args.n l.invariant.rank c.requires.1,
    )

pub nonzero_rem-left : goal.nonzero_rem-left
nonzero_rem-left c =
    let l = c.loop-axis in
    size_next_pos c.args.levels l.axis l.size c.new_count-count.result (omega arith) c.requires.0 l.invariant.size c.new_count-count.ensures

pub loop-axis-preserved : goal.loop-axis-preserved
loop-axis-preserved c =
    let l = c.loop-axis in
    let i = l.invariant in
    let k = c.args.levels in
    let w = c.requires.0 in
    let q = c.new_count-count.ensures in
    let n = c.new_count-count.result in record {
      eight = length-set l.point l.axis c.new_point.result ∙ i.eight;
      size = size_next k l.axis l.size n (omega arith) w i.size q;
      left = rest_digit k l.axis l.size n (omega arith) w i.size q l.left i.left;
      point = i.point ∙ next_point k l.axis l.size n (omega arith) w i.size q l.point l.rank l.left c.new_point.result i.eight (omega arith) (c.new_point.ensures ∙ ap (new_point (level k l.axis)) c.number_visited.ensures.0);
      rank = next_rank k l.axis l.size n (omega arith) w i.size q l.rank l.left ∙ i.rank;
    }

pub returns : goal.returns
returns c =
    let l = c.loop-axis in
    sym (l.invariant.point ∙ ap (λ x. take l.axis l.point ++ x) (point_done l.rank c.args.levels l.axis l.left (omega arith))
    ∙ append-nil (take l.axis l.point) ∙ take_all l.axis l.point (omega arith))
