-- The bytes that a number of a block's points take, from its n-th on: d for each, one point after the other.
-- The idea: one more point is the block's next, and a point has a position for each of the index's levels.
-- Assumes nothing.
use mathlib.Core.Path.{◌≡◌, refl, ap, sym, ◌∙◌}
use mathlib.Core.Logic.{◌⊎◌, inl, inr}
use mathlib.Core.List.{List, [], ◌∷◌, ◌++◌, append_assoc, append-nil}
use Prim.Native.Nat.{ℕ, zero, suc, ◌+◌, ◌*◌, ◌-◌, ◌/◌, ◌<◌, ◌≤◌}
use native.Mathlib.Omega.{arith}
use native.Mathlib.Decide.{dec_lt}
use native.Mathlib.Nat.{le_trans, mod-lt, div-add-mod', div-mul-le_self, le-div_iff_mul-le, mul-le-mul_right}
use lib.ListN.{length, get_or, take, drop, length-append, length-drop}
use lib.Seq.{length-take-le, take_all, take-suc, take-add, take_at, drop_at, get_or-drop}
use Rattle.grid.specs.Block.{block, block_size, point_of}
use Rattle.grid.proofs.Facts.{block-facts}
use Rattle.machine.specs.Points.{points_fitting, positions_of}

pub positions_append : (d : ℕ) (ps qs : List (List ℕ)) → positions_of d (ps ++ qs) ≡ positions_of d ps ++ positions_of d qs
unfolding positions_of
positions_append d [] qs = refl
positions_append d (p ∷ ps) qs = rw (positions_append d ps qs) (sym (append_assoc (take d p) (positions_of d ps) (positions_of d qs)))

module _ (d : ℕ) (k : List ℕ) (n : ℕ) where
  -- the bytes of so many points
  abbrev pub bytes : ℕ → List ℕ
  bytes w = positions_of d (take w (drop n (block k)))

  pub points-left : length (drop n (block k)) ≡ block_size k - n
  points-left = length-drop n (block k) ∙ ap (λ s. s - n) (block-facts.size k)

  next : (w : ℕ) → n + w < block_size k → get_or (drop n (block k)) w [] ≡ point_of k (n + w)
  next w h = get_or-drop n (block k) w [] ∙ block-facts.nth k (n + w) h

  pub bytes_suc : (w : ℕ) → n + w < block_size k → bytes (suc w) ≡ bytes w ++ take d (point_of k (n + w))
  unfolding positions_of
  bytes_suc w h =
      ap (positions_of d) (take-suc (drop n (block k)) w [] (omega (arith, points-left, h)))
      ∙ positions_append d (take w (drop n (block k))) (get_or (drop n (block k)) w [] ∷ [])
      ∙ ap (λ p. bytes w ++ p) (append-nil (take d (get_or (drop n (block k)) w [])) ∙ ap (take d) (next w h))

  pub bytes_length : d ≤ length k → (w : ℕ) → n + w ≤ block_size k → length (bytes w) ≡ w * d
  unfolding positions_of
  bytes_length few zero h = omega arith
  bytes_length few (suc w) h =
      ap length (bytes_suc w (omega (arith, h)))
      ∙ length-append (bytes w) (take d (point_of k (n + w)))
      ∙ omega (
        arith,
        bytes_length few w (omega (arith, h)),
        length-take-le d (point_of k (n + w)) (omega (arith, few, block-facts.positions k (n + w))),
      )

  -- ---- as many as are left and have room

  pub taken_length : (count : ℕ) → count ≤ block_size k - n → length (take count (drop n (block k))) ≡ count
  taken_length count h = length-take-le count (drop n (block k)) (omega (arith, points-left, h))

  -- the lesser of what has room and what is left
  pub fitting : (room count : ℕ) → count ≤ room / d → (count ≡ room / d) ⊎ (count ≡ block_size k - n) → points_fitting d k n room ≡ take count (drop n (block k))
  unfolding points_fitting
  fitting room count h (inl e) = ap (λ c. take c (drop n (block k))) (sym e)
  fitting room count h (inr e) = take_all (room / d) (drop n (block k)) (omega (arith, points-left, h, e)) ∙ sym (take_all count (drop n (block k)) (omega (arith, points-left, e)))

  -- ---- the i-th of w points, in front of whatever follows

  pub bytes_split : (i m : ℕ) → n + i < block_size k → bytes (suc i + m) ≡ bytes i ++ (take d (point_of k (n + i)) ++ positions_of d (take m (drop (suc i) (drop n (block k)))))
  bytes_split i m h =
      ap (positions_of d) (take-add (suc i) m (drop n (block k)))
      ∙ positions_append d (take (suc i) (drop n (block k))) (take m (drop (suc i) (drop n (block k))))
      ∙ ap (λ b. b ++ positions_of d (take m (drop (suc i) (drop n (block k))))) (bytes_suc i h)
      ∙ append_assoc (bytes i) (take d (point_of k (n + i))) (positions_of d (take m (drop (suc i) (drop n (block k)))))

  pub bytes_at : d ≤ length k → (i w : ℕ) (rest : List ℕ) → i < w → n + w ≤ block_size k → take d (drop (i * d) (bytes w ++ rest)) ≡ take d (point_of k (n + i))
  bytes_at few i w rest h inside =
      ap (λ b. take d (drop (i * d) (b ++ rest))) (ap bytes split ∙ bytes_split i m there)
      ∙ ap (λ b. take d (drop (i * d) b)) (append_assoc (bytes i) (p ++ more) rest)
      ∙ ap (take d) (drop_at (bytes i) (p ++ more ++ rest) (i * d) (bytes_length few i (omega (arith, h, inside))))
      ∙ ap (take d) (append_assoc p more rest)
      ∙ take_at p (more ++ rest) d (length-take-le d (point_of k (n + i)) (omega (arith, few, block-facts.positions k (n + i))))
    where
      m : ℕ
      m = w - suc i

      p : List ℕ
      p = take d (point_of k (n + i))

      more : List ℕ
      more = positions_of d (take m (drop (suc i) (drop n (block k))))

      there : n + i < block_size k
      there = omega (arith, h, inside)

      split : w ≡ suc i + m
      split = omega (arith, h)

  -- ---- what fits

  -- `count` of the block's points fit in so many bytes, and are left from the n-th on; and no more.
  pub record Fitting (room count : ℕ) : Type 0 where
    pub is : points_fitting d k n room ≡ take count (drop n (block k))
    pub some : 1 ≤ count
    pub fit : count * d ≤ room
    pub left : n + count ≤ block_size k
    pub most : (n + count ≡ block_size k) ⊎ (room < (count + 1) * d)

  pub fitting_count : (room : ℕ) → 1 ≤ d → d ≤ room → n < block_size k → (count : ℕ) × Fitting room count
  fitting_count room one enough inside = go (dec_lt (block_size k - n) (room / d))
    where
      go : Dec (block_size k - n < room / d) → (count : ℕ) × Fitting room count
      go (yes h) = (
        block_size k - n,
        record {
          is = fitting room (block_size k - n) (omega (arith, h)) (inr refl);
          some = omega (arith, inside);
          fit = le_trans (mul-le-mul_right d (omega (arith, h))) (div-mul-le_self room d);
          left = omega (arith, inside);
          most = inl (omega (arith, inside));
        },
      )
      go (no h) = (
        room / d,
        record {
          is = fitting room (room / d) (omega arith) (inl refl);
          some = (le-div_iff_mul-le {x = 1} {y = room} one).1 (omega (arith, enough));
          fit = div-mul-le_self room d;
          left = omega (arith, inside, h);
          most = inr (omega (arith, div-add-mod' room d, mod-lt room one));
        },
      )
