-- The earlier axes: behind each of their points the axes left are walked once, with the rank of that point, which tells which way an axis goes.
-- The idea: the number of a point is written in two digits, the first of which is the rank of the earlier axes' point.
-- Assumes nothing.
use mathlib.Core.Path.{◌≡◌, refl, sym, ap, ap₂, ◌∙◌, subst}
use mathlib.Core.Bool.{true}
use mathlib.Core.List.{List, [], ◌∷◌, ◌++◌}
use Prim.Native.Nat.{ℕ, zero, suc, ◌+◌, ◌*◌, ◌/◌, ◌%◌, ◌<◌, ◌≤◌}
use native.Mathlib.Nat as NatL
use native.Mathlib.Nat.{le_of_eq, le_of_lt, mod-lt, div-add-mod', le-div_iff_mul-le, div-mul-le_self, le_trans}
use native.Mathlib.Decide.{ℕ_discrete}
use native.Mathlib.Omega.{arith}
use lib.Arith.{digits_lt}
use lib.ListN.{length, get_or, take, drop, take-append-drop}
use lib.Seq.{get_or-drop}
use Rattle.rule.specs.Points.{new_count, new_point}
use Rattle.rule.proofs.Tables.{rising}
use Rattle.grid.specs.Index.{levels_within}
use Rattle.grid.specs.Block.{turned, block_size, point_after, point_of, rank_after, rank_in}
use Rattle.grid.proofs.Levels.{Levels, levels_sure, levels_back}
use Rattle.grid.proofs.LoopSteps.{size-pos, levels_drop}
use Rattle.grid.proofs.Turns.{turned_even, turned-odd, turned_below}
use Rattle.grid.proofs.Blocks.{high_digit, low_digit, at_digits, carried, first_rank, positions, positions_after, rank_of_point}

-- ---- behind a point of the earlier axes

size-joined : (ks ls : List ℕ) → block_size (ks ++ ls) ≡ block_size ks * block_size ls
unfolding block_size
size-joined [] ls = sym (NatL.one-mul (block_size ls))
size-joined (k ∷ ks) ls = ap (λ x. new_count k * x) (size-joined ks ls) ∙ sym (NatL.mul_assoc (new_count k) (block_size ks) (block_size ls))

behind-points : (s : ℕ) (ks ls : List ℕ) (r m : ℕ) → r < block_size ks → m < block_size ls
    → point_after s (ks ++ ls) (r * block_size ls + m) ≡ point_after s ks r ++ point_after (s * block_size ks + r) ls m
unfolding point_after block_size
behind-points s [] ls r m h l =
    ap₂ (λ x n. point_after x ls n) rank (only r h)
  where
    rank : s ≡ s * 1 + r
    rank = omega arith

    only : (r : ℕ) → r < 1 → r * block_size ls + m ≡ m
    only zero z = omega (arith, NatL.zero-mul (block_size ls))
    only (suc r) z = absurd (omega arith)
behind-points s (k ∷ ks) ls r m h l =
    ap (point_after s (k ∷ (ks ++ ls))) number
    ∙ at_digits s k (ks ++ ls) q (t * block_size ls + m) below
    ∙ ap (λ (xs : List ℕ). new_point k (turned s (new_count k) q) ∷ xs)
    (behind-points (s * new_count k + q) ks ls t m (low_digit r (new_count k) (block_size ks) h) l
    ∙ ap (λ x. point_after (s * new_count k + q) ks t ++ point_after x ls m) (carried s (new_count k) q (block_size ks) t ∙ ap (λ x. s * (new_count k * block_size ks) + x) whole))
  where
    q : ℕ
    q = r / block_size ks

    t : ℕ
    t = r % block_size ks

    whole : q * block_size ks + t ≡ r
    whole = div-add-mod' r (block_size ks)

    below : t * block_size ls + m < block_size (ks ++ ls)
    below = subst (λ x. t * block_size ls + m < x) (sym (size-joined ks ls)) (digits_lt (low_digit r (new_count k) (block_size ks) h) l)

    number : r * block_size ls + m ≡ q * block_size (ks ++ ls) + (t * block_size ls + m)
    number =
        ap (λ x. x * block_size ls + m) (sym whole)
        ∙ carried q (block_size ks) t (block_size ls) m
        ∙ ap (λ x. q * x + (t * block_size ls + m)) (sym (size-joined ks ls))

pub behind_point : (ks ls : List ℕ) (r m : ℕ) → r < block_size ks → m < block_size ls → point_of (ks ++ ls) (r * block_size ls + m) ≡ point_of ks r ++ point_after r ls m
unfolding point_of
behind_point ks ls r m h l = behind-points 0 ks ls r m h l ∙ ap (λ x. point_after 0 ks r ++ point_after x ls m) (first_rank (block_size ks) r)

-- ---- the earlier axes and the axes left

levels_take : (i : ℕ) (k : List ℕ) → Levels 8 k → Levels 8 (take i k)
levels_take zero [] w = tt
levels_take zero (k ∷ ks) w = tt
levels_take (suc i) [] w = tt
levels_take (suc i) (k ∷ ks) w = (w.0, w.1, levels_take i ks w.2)

-- two parts that are as long as those of another list
parts_of : (i : ℕ) (k p q : List ℕ) → length p ≡ length (take i k) → length q ≡ length (drop i k) → (take i (p ++ q) ≡ p) × (drop i (p ++ q) ≡ q)
parts_of zero k [] q a b = (refl, refl)
parts_of zero k (x ∷ p) q a b = absurd (omega (arith, a))
parts_of (suc i) [] [] [] a b = (refl, refl)
parts_of (suc i) [] [] (x ∷ q) a b = absurd (omega (arith, b))
parts_of (suc i) [] (x ∷ p) q a b = absurd (omega (arith, a))
parts_of (suc i) (y ∷ k) [] q a b = absurd (omega (arith, a))
parts_of (suc i) (y ∷ k) (x ∷ p) q a b = let rest = parts_of i k p q (omega (arith, a)) b in (ap (λ (l : List ℕ). x ∷ l) rest.0, rest.1)

module _ (k : List ℕ) (v : levels_within k ≡ true) (i : ℕ) where
  -- how many points the axes left have
  left : ℕ
  left = block_size (drop i k)

  some_left : 0 < left
  unfolding left
  some_left = size-pos 8 (drop i k) (levels_drop 8 k i (levels_sure k v))

  module _ (n : ℕ) (h : n < block_size k) where
    first : n / left < block_size (take i k)
    unfolding left
    first = high_digit n (block_size (take i k)) left (subst (λ s. n < s) (ap block_size (sym (take-append-drop i k)) ∙ size-joined (take i k) (drop i k)) h)

    parts : (take i (point_of k n) ≡ point_of (take i k) (n / left)) × (drop i (point_of k n) ≡ point_after (n / left) (drop i k) (n % left))
    unfolding left
    parts =
        subst (λ x. (take i x ≡ point_of (take i k) (n / left)) × (drop i x ≡ point_after (n / left) (drop i k) (n % left))) (sym joined)
        (parts_of i k (point_of (take i k) (n / left)) (point_after (n / left) (drop i k) (n % left)) (positions (take i k) (n / left)) (positions_after (n / left) (drop i k) (n % left)))
      where
        joined : point_of k n ≡ point_of (take i k) (n / left) ++ point_after (n / left) (drop i k) (n % left)
        joined =
            ap₂ point_of (sym (take-append-drop i k)) (sym (div-add-mod' n left))
            ∙ behind_point (take i k) (drop i k) (n / left) (n % left) first (mod-lt n some_left)

    pub earlier : take i (point_of k n) ≡ point_of (take i k) (n / block_size (drop i k))
    unfolding left
    earlier = parts.0

    earlier_rank : rank_in (take i k) (take i (point_of k n)) ≡ n / left
    earlier_rank = ap (rank_in (take i k)) parts.0 ∙ rank_of_point (take i k) (levels_back (take i k) (levels_take i k (levels_sure k v))) (n / left) first

    pub turning_rank : drop i (point_of k n) ≡ point_after (rank_in (take i k) (take i (point_of k n))) (drop i k) (n % block_size (drop i k))
    unfolding left
    turning_rank = parts.1 ∙ ap (λ r. point_after r (drop i k) (n % left)) (sym earlier_rank)

-- ---- which way an axis goes

-- from x to y upwards if the rank is even, downwards if it is odd
abbrev Goes : ℕ → ℕ → ℕ → Type 0
Goes r x y = (r % 2 ≡ 0 → x ≤ y) × (r % 2 ≡ 1 → y ≤ x)

not_lower : (k a b : ℕ) → 1 ≤ k → k ≤ 8 → a ≤ b → b < new_count k → new_point k a ≤ new_point k b
not_lower k a b l h c i = step (ℕ_discrete a b)
  where
    step : Dec (a ≡ b) → new_point k a ≤ new_point k b
    step (yes e) = le_of_eq (ap (new_point k) e)
    step (no n) = le_of_lt (rising k a b l h (omega arith) i)

first_goes : (r k a b : ℕ) → 1 ≤ k → k ≤ 8 → a ≤ b → b < new_count k → Goes r (new_point k (turned r (new_count k) a)) (new_point k (turned r (new_count k) b))
first_goes r k a b l h c i = (
  λ e. not_lower k (turned r (new_count k) a) (turned r (new_count k) b) l h (omega (arith, c, turned_even r (new_count k) a e, turned_even r (new_count k) b e)) (turned_below r (new_count k) b i),
  λ e. not_lower k (turned r (new_count k) b) (turned r (new_count k) a) l h (omega (arith, c, turned-odd r (new_count k) a e, turned-odd r (new_count k) b e)) (turned_below r (new_count k) a (omega arith)),
)

-- the first of the axes left
left_goes : (r : ℕ) (k : List ℕ) (n m : ℕ) → Levels 8 k → n ≤ m → m < block_size k → Goes r (get_or (point_after r k n) 0 0) (get_or (point_after r k m) 0 0)
unfolding point_after block_size
left_goes r [] n m w l h = (λ z. omega arith, λ z. omega arith)
left_goes r (k ∷ ks) n m w l h =
    first_goes r k (n / block_size ks) (m / block_size ks) w.0 w.1 ((le-div_iff_mul-le (size-pos 8 ks w.2)).1 (le_trans (div-mul-le_self n (block_size ks)) l)) (high_digit m (new_count k) (block_size ks) h)

module _ (k : List ℕ) (v : levels_within k ≡ true) (i n m : ℕ) (l : n ≤ m) (h : m < block_size k) (e : take i (point_of k n) ≡ take i (point_of k m)) where
  below : n < block_size k
  below = omega (arith, l, h)

  rank : ℕ
  rank = rank_in (take i k) (take i (point_of k n))

  same : n / left k v i ≡ m / left k v i
  same = sym (earlier_rank k v i n below) ∙ ap (rank_in (take i k)) e ∙ earlier_rank k v i m h

  at_axis : (j : ℕ) → get_or (point_of k j) i 0 ≡ get_or (drop i (point_of k j)) 0 0
  at_axis j = sym (get_or-drop i (point_of k j) 0 0 ∙ ap (λ a. get_or (point_of k j) a 0) (NatL.add-zero i))

  pub goes : Goes (rank_in (take i k) (take i (point_of k n))) (get_or (point_of k n) i 0) (get_or (point_of k m) i 0)
  unfolding left rank
  goes =
      subst (λ x. Goes rank x (get_or (point_of k m) i 0)) (sym (at_axis n ∙ ap (λ p. get_or p 0 0) (turning_rank k v i n below)))
      (subst (λ y. Goes rank (get_or (point_after rank (drop i k) (n % left k v i)) 0 0) y)
      (sym (at_axis m ∙ ap (λ p. get_or p 0 0) (turning_rank k v i m h) ∙ ap (λ p. get_or (point_after (rank_in (take i k) p) (drop i k) (m % left k v i)) 0 0) (sym e)))
      (left_goes rank (drop i k) (n % left k v i) (m % left k v i) (levels_drop 8 k i (levels_sure k v)) less (mod-lt m (some_left k v i))))
    where
      less : n % left k v i ≤ m % left k v i
      less = omega (arith, l, div-add-mod' n (left k v i), div-add-mod' m (left k v i), ap (λ x. x * left k v i) same)

-- ---- as the statement has them

module _ (k : List ℕ) (v : levels_within k ≡ true) where
  pub rises : (i n m : ℕ) → n ≤ m → m < block_size k → take i (point_of k n) ≡ take i (point_of k m) → rank_in (take i k) (take i (point_of k n)) % 2 ≡ 0
      → get_or (point_of k n) i 0 ≤ get_or (point_of k m) i 0
  rises i n m l h e z = (goes k v i n m l h e).0 z

  pub falls : (i n m : ℕ) → n ≤ m → m < block_size k → take i (point_of k n) ≡ take i (point_of k m) → rank_in (take i k) (take i (point_of k n)) % 2 ≡ 1
      → get_or (point_of k m) i 0 ≤ get_or (point_of k n) i 0
  falls i n m l h e z = (goes k v i n m l h e).1 z

  pub first_rises : (n m : ℕ) → n ≤ m → m < block_size k → get_or (point_of k n) 0 0 ≤ get_or (point_of k m) 0 0
  first_rises n m l h = rises 0 n m l h refl (unfold rank_in rank_after in refl)
