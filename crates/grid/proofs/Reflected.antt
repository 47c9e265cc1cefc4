-- The reflected order: two points in a row are one step apart.
-- The idea: where the later axes have been gone through, the next walk of them begins where this one ended, since its rank has the other
-- parity and so it is this one backwards.
-- Assumes nothing.
use mathlib.Core.Path.{◌≡◌, refl, sym, ap, ap₂, ◌∙◌, subst}
use mathlib.Core.Logic.{◌≢◌, ◌⊎◌, inl, inr}
use mathlib.Core.Bool.{true}
use mathlib.Core.List.{List, [], ◌∷◌}
use Prim.Native.Nat.{ℕ, zero, suc, ◌+◌, ◌*◌, ◌-◌, ◌/◌, ◌%◌, ◌<◌, ◌≤◌}
use native.Mathlib.Nat as NatL
use native.Mathlib.Nat.{mod-lt, div-add-mod'}
use native.Mathlib.Decide.{dec_lt}
use native.Mathlib.Omega.{arith}
use lib.ListN.{get_or}
use Rattle.rule.specs.Points.{new_count, new_point, rank_of}
use Rattle.rule.proofs.Tables.{rank_is}
use Rattle.grid.specs.Index.{levels_within}
use Rattle.grid.specs.Block.{turned, block_size, point_after, point_of}
use Rattle.grid.specs.Terms.{NextNew, OneStep}
use Rattle.grid.proofs.Levels.{Levels, levels_sure}
use Rattle.grid.proofs.LoopSteps.{size-pos}
use Rattle.grid.proofs.Turns.{even_or_odd, turned_even, turned-odd, turned_below, turned_same, turned_back, next_parity}
use Rattle.grid.proofs.Blocks.{high_digit, low_digit, at_digits, visited_new}

-- ---- only the parity of the rank counts

same_parity : (r s : ℕ) (k : List ℕ) (n : ℕ) → r % 2 ≡ s % 2 → point_after r k n ≡ point_after s k n
unfolding point_after
same_parity r s [] n e = refl
same_parity r s (k ∷ ks) n e =
    ap₂ (λ (x : ℕ) (xs : List ℕ). x ∷ xs) (ap (new_point k) (turned_same r s (new_count k) (n / block_size ks) e))
    (same_parity (r * new_count k + n / block_size ks) (s * new_count k + n / block_size ks) ks (n % block_size ks) (next_parity r s (new_count k) (n / block_size ks) e))

-- ---- the walk under the next rank is this one backwards

-- the digits of a number counted from the end
back_digits : (c s q m : ℕ) → q < c → m < s → c * s - 1 - (q * s + m) ≡ (c - 1 - q) * s + (s - 1 - m)
back_digits c s q m h k = omega (arith, whole, NatL.add-mul (c - 1 - q) q s, NatL.suc-mul (c - 1 - q + q) s)
  where
    whole : suc (c - 1 - q + q) * s ≡ c * s
    whole = ap (λ x. x * s) {x = suc (c - 1 - q + q)} {y = c} (omega arith)

backwards : (r : ℕ) (k : List ℕ) (n : ℕ) → Levels 8 k → n < block_size k → point_after r k (block_size k - 1 - n) ≡ point_after (suc r) k n
backwards r [] n w h = unfold point_after in refl
backwards r (k ∷ ks) n w h =
    ap (λ x. point_after r (k ∷ ks) (block_size (k ∷ ks) - 1 - x)) (sym whole)
    ∙ ap (point_after r (k ∷ ks)) from_end
    ∙ at_digits r k ks (c - 1 - q) (block_size ks - 1 - m) (omega (arith, low))
    ∙ ap₂ (λ (x : ℕ) (xs : List ℕ). x ∷ xs) (ap (new_point k) (turned_back r c q high))
    (backwards (r * c + (c - 1 - q)) ks m w.2 low
    ∙ same_parity (suc (r * c + (c - 1 - q))) (suc r * c + q) ks m (parities (r * c) (suc r * c) (NatL.suc-mul r c)))
    ∙ sym (at_digits (suc r) k ks q m low)
    ∙ ap (point_after (suc r) (k ∷ ks)) whole
  where
    c : ℕ
    c = new_count k

    q : ℕ
    q = n / block_size ks

    m : ℕ
    m = n % block_size ks

    whole : q * block_size ks + m ≡ n
    whole = div-add-mod' n (block_size ks)

    high : q < c
    high = high_digit n (new_count k) (block_size ks) (unfold block_size in h)

    low : m < block_size ks
    low = low_digit n (new_count k) (block_size ks) (unfold block_size in h)

    from_end : block_size (k ∷ ks) - 1 - (q * block_size ks + m) ≡ (c - 1 - q) * block_size ks + (block_size ks - 1 - m)
    from_end = unfold block_size in back_digits c (block_size ks) q m high low

    parities : (x y : ℕ) → y ≡ x + c → suc (x + (c - 1 - q)) % 2 ≡ (y + q) % 2
    parities x y e = omega (arith, e, high)

-- ---- one step

-- along the later axes, the first standing still; or along the first, the later ones standing still
step_behind : (k x : ℕ) (ks xs ys : List ℕ) → OneStep ks xs ys → OneStep (k ∷ ks) (x ∷ xs) (x ∷ ys)
step_behind k x ks xs ys o = record { axis = suc o.axis; inside = omega (arith, o.inside); step = o.step; others = still }
  where
    still : (b : ℕ) → b ≢ suc o.axis → get_or (x ∷ xs) b 0 ≡ get_or (x ∷ ys) b 0
    still zero n = refl
    still (suc b) n = o.others b (λ e. n (ap suc e))

step_here : (k x y : ℕ) (ks xs ys : List ℕ) → NextNew k x y → xs ≡ ys → OneStep (k ∷ ks) (x ∷ xs) (y ∷ ys)
step_here k x y ks xs ys s e = record { axis = 0; inside = omega arith; step = s; others = still }
  where
    still : (b : ℕ) → b ≢ 0 → get_or (x ∷ xs) b 0 ≡ get_or (y ∷ ys) b 0
    still zero n = absurd (n refl)
    still (suc b) n = ap (λ l. get_or l b 0) e

-- an axis goes from new point to new point
next_visit : (r k q : ℕ) → 1 ≤ k → k ≤ 8 → suc q < new_count k
    → NextNew k (new_point k (turned r (new_count k) q)) (new_point k (turned r (new_count k) (suc q)))
next_visit r k q a b h = record { first = visited_new r k q a b here; second = visited_new r k (suc q) a b h; apart = step (even_or_odd r) }
  where
    here : q < new_count k
    here = omega arith

    number : (i : ℕ) → i < new_count k → rank_of (new_point k (turned r (new_count k) i)) ≡ turned r (new_count k) i
    number i l = rank_is k (turned r (new_count k) i) a b (turned_below r (new_count k) i l)

    now : ℕ
    now = rank_of (new_point k (turned r (new_count k) q))

    next : ℕ
    next = rank_of (new_point k (turned r (new_count k) (suc q)))

    step : (r % 2 ≡ 0) ⊎ (r % 2 ≡ 1) → (next ≡ suc now) ⊎ (now ≡ suc next)
    step (inl e) = inl (number (suc q) h ∙ turned_even r (new_count k) (suc q) e ∙ ap suc (sym (number q here ∙ turned_even r (new_count k) q e)))
    step (inr e) = inr (number q here ∙ turned-odd r (new_count k) q e ∙ omega (arith, h) ∙ ap suc (sym (number (suc q) h ∙ turned-odd r (new_count k) (suc q) e)))

steps : (r : ℕ) (k : List ℕ) (n : ℕ) → Levels 8 k → suc n < block_size k → OneStep k (point_after r k n) (point_after r k (suc n))
steps r [] n w h = absurd (unfold block_size in omega (arith, h))
steps r (k ∷ ks) n w h =
    subst (λ x. OneStep (k ∷ ks) (point_after r (k ∷ ks) x) (point_after r (k ∷ ks) (suc x))) whole
    (step (steps (r * new_count k + n / block_size ks) ks (n % block_size ks) w.2) (dec_lt (suc m) s))
  where
    s : ℕ
    s = block_size ks

    q : ℕ
    q = n / block_size ks

    m : ℕ
    m = n % block_size ks

    some : 0 < s
    some = size-pos 8 ks w.2

    whole : q * s + m ≡ n
    whole = div-add-mod' n s

    low : m < s
    low = mod-lt n some

    both : (x y : List ℕ) → point_after r (k ∷ ks) (q * s + m) ≡ x → point_after r (k ∷ ks) (suc (q * s + m)) ≡ y → OneStep (k ∷ ks) x y
        → OneStep (k ∷ ks) (point_after r (k ∷ ks) (q * s + m)) (point_after r (k ∷ ks) (suc (q * s + m)))
    both x y e f o = subst (λ u. OneStep (k ∷ ks) u (point_after r (k ∷ ks) (suc (q * s + m)))) (sym e) (subst (OneStep (k ∷ ks) x) (sym f) o)

    step : (suc m < s → OneStep ks (point_after (r * new_count k + q) ks m) (point_after (r * new_count k + q) ks (suc m))) → Dec (suc m < s)
        → OneStep (k ∷ ks) (point_after r (k ∷ ks) (q * s + m)) (point_after r (k ∷ ks) (suc (q * s + m)))
    step inner (yes l) =
        both _ _ (at_digits r k ks q m low) (ap (point_after r (k ∷ ks)) (sym (NatL.add-suc (q * s) m)) ∙ at_digits r k ks q (suc m) l)
        (step_behind k _ ks _ _ (inner l))
    step inner (no l) =
        both _ _ (at_digits r k ks q m low) (ap (point_after r (k ∷ ks)) next ∙ at_digits r k ks (suc q) 0 some)
        (step_here k _ _ ks _ _ (next_visit r k q w.0 w.1 inside)
        (ap (point_after (r * new_count k + q) ks) last ∙ backwards (r * new_count k + q) ks 0 w.2 some ∙ ap (λ x. point_after x ks 0) (sym (NatL.add-suc (r * new_count k) q))))
      where
        last : m ≡ s - 1 - 0
        last = omega (arith, l, low)

        next : suc (q * s + m) ≡ suc q * s + 0
        next = omega (arith, l, low, NatL.suc-mul q s)

        below : suc n < new_count k * s
        below = unfold block_size in h

        inside : suc q < new_count k
        inside = NatL.lt_of_mul-lt-mul_right s (omega (arith, next, whole, below))

pub one_step : (k : List ℕ) → levels_within k ≡ true → (n : ℕ) → suc n < block_size k → OneStep k (point_of k n) (point_of k (suc n))
unfolding point_of
one_step k v n h = steps 0 k n (levels_sure k v) h
