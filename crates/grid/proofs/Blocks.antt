-- The points of a block: by number, exactly those that are new on each axis, each once, and their rank.
-- The idea: a point's number is written in two digits, which visit of its first axis it belongs to and the number of the rest there; and
-- all is shown for any rank of the earlier axes' point, since the rest is walked under another.
-- Assumes nothing.
use mathlib.Core.Path.{◌≡◌, refl, sym, ap, ap₂, ◌∙◌, subst}
use mathlib.Core.Bool.{true, false}
use mathlib.Core.List.{List, [], ◌∷◌, ◌++◌, map, Memᴰ}
use Prim.Native.Nat.{ℕ, zero, suc, ◌+◌, ◌*◌, ◌/◌, ◌%◌, ◌<◌, ◌≤◌}
use native.Mathlib.Nat as NatL
use native.Mathlib.Nat.{mod-lt, div-lt_iff_lt-mul, div-add-mod'}
use native.Mathlib.Omega.{arith}
use borrow.Author.Tests.{eq-eqb, eqb-true}
use lib.Arith.{digits_lt, digits_div, digits_mod}
use lib.ListN.{length, get_or, length-append, length-map, get_or-append}
use lib.Seq.{get_or-append-add}
use Rattle.rule.specs.Points.{new_points, new_count, new_point, new_at, level_of, rank_of}
use Rattle.rule.proofs.Points as Points
use Rattle.rule.proofs.Tables.{level_is, rank_is, rank_below, point_is, new_at_lem, new_range}
use Rattle.grid.specs.Index.{levels_within}
use Rattle.grid.specs.Block.{directed, turned, rows, block_after, block, block_size, point_after, point_of, rank_after, rank_in, new_on_each}
use Rattle.grid.proofs.Levels.{Levels, levels_sure, and_left, and_right, and_both}
use Rattle.grid.proofs.Turns.{turned_below, turned_twice, directed-length, directed_at}

-- ---- the block as a list

get_d_front : (x : ℕ) (ps : List (List ℕ)) (t : ℕ) → t < length ps → get_or (map (λ (p : List ℕ). x ∷ p) ps) t [] ≡ x ∷ get_or ps t []
get_d_front x [] t h = absurd (omega arith)
get_d_front x (p ∷ ps) zero h = refl
get_d_front x (p ∷ ps) (suc t) h = get_d_front x ps t (omega arith)

-- rows of m points each
module _ (walk : ℕ → List (List ℕ)) (m : ℕ) (each : (r : ℕ) → length (walk r) ≡ m) where
  row : ℕ → ℕ → List (List ℕ)
  row r x = map (λ (p : List ℕ). x ∷ p) (walk r)

  row-length : (r x : ℕ) → length (row r x) ≡ m
  unfolding row
  row-length r x = length-map (walk r) (λ (p : List ℕ). x ∷ p) ∙ each r

  rows-length : (r : ℕ) (xs : List ℕ) → length (rows walk r xs) ≡ length xs * m
  unfolding rows row
  rows-length r [] = sym (NatL.zero-mul m)
  rows-length r (x ∷ xs) =
      length-append (row r x) (rows walk (suc r) xs)
      ∙ ap₂ ◌+◌ (row-length r x) (rows-length (suc r) xs)
      ∙ NatL.add_comm m (length xs * m)
      ∙ sym (NatL.suc-mul (length xs) m)

  -- the point with the digits q and t
  rows_at : (r : ℕ) (xs : List ℕ) (q t : ℕ) → q < length xs → t < m → get_or (rows walk r xs) (q * m + t) [] ≡ get_or xs q 0 ∷ get_or (walk (r + q)) t []
  unfolding rows row
  rows_at r [] q t a b = absurd (omega arith)
  rows_at r (x ∷ xs) zero t a b =
      ap (λ n. get_or (row r x ++ rows walk (suc r) xs) n []) (ap (λ n. n + t) (NatL.zero-mul m) ∙ NatL.zero-add t)
      ∙ get_or-append (row r x) (rows walk (suc r) xs) [] t (subst (λ n. t < n) (sym (row-length r x)) b)
      ∙ get_d_front x (walk r) t (subst (λ n. t < n) (sym (each r)) b)
      ∙ ap (λ s. x ∷ get_or (walk s) t []) (sym (NatL.add-zero r))
  rows_at r (x ∷ xs) (suc q) t a b =
      ap (λ n. get_or (row r x ++ rows walk (suc r) xs) n []) (past q t ∙ ap (λ n. n + (q * m + t)) (sym (row-length r x)))
      ∙ get_or-append-add (row r x) (rows walk (suc r) xs) (q * m + t) []
      ∙ rows_at (suc r) xs q t (omega arith) b
      ∙ ap (λ s. get_or xs q 0 ∷ get_or (walk s) t []) {x = suc r + q} {y = r + suc q} (omega arith)
    where
      past : (q t : ℕ) → suc q * m + t ≡ m + (q * m + t)
      past q t = omega arith

size_after : (r : ℕ) (k : List ℕ) → length (block_after r k) ≡ block_size k
unfolding block_after block_size
size_after r [] = refl
size_after r (k ∷ ks) =
    rows-length (λ s. block_after s ks) (block_size ks) (λ s. size_after s ks) (r * new_count k) (directed r (new_points k))
    ∙ ap (λ c. c * block_size ks) (directed-length r (new_points k) ∙ Points.new_count_lem k)

pub size : (k : List ℕ) → length (block k) ≡ block_size k
unfolding block
size k = size_after 0 k

-- what a number below a product says of its two digits
product_pos : (n a s : ℕ) → n < a * s → 0 < s
product_pos n a zero h = absurd (let e : a * 0 ≡ 0 = NatL.mul-zero a in omega arith)
product_pos n a (suc s) h = omega arith

module _ (n a s : ℕ) (h : n < a * s) where
  pub high_digit : n / s < a
  high_digit = (div-lt_iff_lt-mul (product_pos n a s h)).1 h

  pub low_digit : n % s < s
  low_digit = mod-lt n (product_pos n a s h)

nth_after : (r : ℕ) (k : List ℕ) (n : ℕ) → n < block_size k → get_or (block_after r k) n [] ≡ point_after r k n
unfolding block_after block_size point_after
nth_after r [] zero h = refl
nth_after r [] (suc n) h = absurd (omega arith)
nth_after r (k ∷ ks) n h =
    ap (λ m. get_or (rows (λ s. block_after s ks) (r * new_count k) (directed r (new_points k))) m []) (sym (div-add-mod' n (block_size ks)))
    ∙ rows_at (λ s. block_after s ks) (block_size ks) (λ s. size_after s ks) (r * new_count k) (directed r (new_points k)) q (n % block_size ks)
    (subst (λ c. q < c) (sym (directed-length r (new_points k))) inside) (low_digit n (new_count k) (block_size ks) h)
    ∙ ap₂ (λ (p : ℕ) (ps : List ℕ). p ∷ ps)
    (directed_at r (new_points k) q inside ∙ ap (λ c. get_or (new_points k) (turned r c q) 0) (Points.new_count_lem k)
    ∙ Points.new_point_lem k (turned r (new_count k) q) (turned_below r (new_count k) q (high_digit n (new_count k) (block_size ks) h)))
    (nth_after (r * new_count k + q) ks (n % block_size ks) (low_digit n (new_count k) (block_size ks) h))
  where
    q : ℕ
    q = n / block_size ks

    inside : q < length (new_points k)
    inside = subst (λ c. q < c) (sym (Points.new_count_lem k)) (high_digit n (new_count k) (block_size ks) h)

pub nth : (k : List ℕ) (n : ℕ) → n < block_size k → get_or (block k) n [] ≡ point_of k n
unfolding block point_of
nth k n h = nth_after 0 k n h

-- the point whose number has the digits q and t
pub at_digits : (r k : ℕ) (ks : List ℕ) (q t : ℕ) → t < block_size ks
    → point_after r (k ∷ ks) (q * block_size ks + t) ≡ new_point k (turned r (new_count k) q) ∷ point_after (r * new_count k + q) ks t
unfolding point_after
at_digits r k ks q t h = ap₂ (λ x y. new_point k (turned r (new_count k) x) ∷ point_after (r * new_count k + x) ks y) (digits_div q h) (digits_mod q h)

-- ---- new on each axis

-- the position visited q-th, and which visit it is
module _ (r k q : ℕ) (a : 1 ≤ k) (b : k ≤ 8) (h : q < new_count k) where
  pub visited_new : new_at k (new_point k (turned r (new_count k) q)) ≡ true
  visited_new =
      new_at_lem k (new_point k (turned r (new_count k) q)) a b
      ∙ eq-eqb (level_of (new_point k (turned r (new_count k) q))) k (level_is k (turned r (new_count k) q) a b (turned_below r (new_count k) q h))

  pub visit_of : turned r (new_count k) (rank_of (new_point k (turned r (new_count k) q))) ≡ q
  visit_of = ap (turned r (new_count k)) (rank_is k (turned r (new_count k) q) a b (turned_below r (new_count k) q h)) ∙ turned_twice r (new_count k) q h

points_new : (r : ℕ) (k : List ℕ) (n : ℕ) → Levels 8 k → n < block_size k → new_on_each k (point_after r k n) ≡ true
unfolding new_on_each point_after block_size
points_new r [] n w h = refl
points_new r (k ∷ ks) n w h =
    and_both (new_at k (new_point k (turned r (new_count k) (n / block_size ks)))) (new_on_each ks (point_after (r * new_count k + n / block_size ks) ks (n % block_size ks)))
    (visited_new r k (n / block_size ks) w.0 w.1 (high_digit n (new_count k) (block_size ks) h))
    (points_new (r * new_count k + n / block_size ks) ks (n % block_size ks) w.2 (low_digit n (new_count k) (block_size ks) h))

-- what the test says of the first position
pub record Newest (k p : ℕ) : Type 0 where
  pub number : rank_of p < new_count k
  pub point : new_point k (rank_of p) ≡ p

newest : (k p : ℕ) → 1 ≤ k → k ≤ 8 → new_at k p ≡ true → Newest k p
newest k p a b e =
    record {
      number = subst (λ l. rank_of p < new_count l) same (rank_below p range);
      point = subst (λ l. new_point l (rank_of p) ≡ p) same (point_is p range);
    }
  where
    range : p ≤ 128
    range = new_range k p a b e

    same : level_of p ≡ k
    same = eqb-true (level_of p) k (sym (new_at_lem k p a b) ∙ e)

clash : {A : Type 0} → false ≡ true → A
clash e = absurd (let z : ◌≡◌ {A = ℕ} 0 1 = cc in omega arith)

-- ---- ranks

-- a point behind one of rank r: its number there, and its rank among all
record Ranked (r : ℕ) (k p : List ℕ) : Type 0 where
  number : ℕ
  below : number < block_size k
  rank : rank_after r k p ≡ r * block_size k + number
  point : point_after r k number ≡ p

pub carried : (r c q s t : ℕ) → (r * c + q) * s + t ≡ r * (c * s) + (q * s + t)
carried r c q s t = ap (λ x. x + t) (NatL.add-mul (r * c) q s ∙ ap (λ x. x + q * s) (NatL.mul_assoc r c s)) ∙ NatL.add_assoc (r * (c * s)) (q * s) t

ranked : (r : ℕ) (k p : List ℕ) → Levels 8 k → new_on_each k p ≡ true → Ranked r k p
unfolding new_on_each
ranked r [] [] w e =
    record {
      number = 0;
      below = unfold block_size in omega arith;
      rank = unfold rank_after block_size in omega arith;
      point = unfold point_after in refl;
    }
ranked r [] (p ∷ ps) w e = clash e
ranked r (k ∷ ks) [] w e = clash e
ranked r (k ∷ ks) (p ∷ ps) w e = step (ranked (r * new_count k + turned r (new_count k) (rank_of p)) ks ps w.2 (and_right (new_at k p) (new_on_each ks ps) e))
  where
    first : Newest k p
    first = newest k p w.0 w.1 (and_left (new_at k p) (new_on_each ks ps) e)

    q : ℕ
    q = turned r (new_count k) (rank_of p)

    step : Ranked (r * new_count k + q) ks ps → Ranked r (k ∷ ks) (p ∷ ps)
    step x =
        record {
          number = q * block_size ks + x.number;
          below = unfold block_size in digits_lt (turned_below r (new_count k) (rank_of p) first.number) x.below;
          rank = unfold rank_after block_size in (x.rank ∙ carried r (new_count k) q (block_size ks) x.number);
          point =
              at_digits r k ks q x.number x.below
              ∙ ap₂ (λ (y : ℕ) (ys : List ℕ). y ∷ ys) (ap (new_point k) (turned_twice r (new_count k) (rank_of p) first.number) ∙ first.point) x.point;
        }

ranks_of_points : (r : ℕ) (k : List ℕ) (n : ℕ) → Levels 8 k → n < block_size k → rank_after r k (point_after r k n) ≡ r * block_size k + n
unfolding rank_after point_after block_size
ranks_of_points r [] n w h = omega arith
ranks_of_points r (k ∷ ks) n w h =
    ap (λ x. rank_after (r * new_count k + x) ks (point_after (r * new_count k + n / block_size ks) ks (n % block_size ks)))
    (visit_of r k (n / block_size ks) w.0 w.1 (high_digit n (new_count k) (block_size ks) h))
    ∙ ranks_of_points (r * new_count k + n / block_size ks) ks (n % block_size ks) w.2 (low_digit n (new_count k) (block_size ks) h)
    ∙ carried r (new_count k) (n / block_size ks) (block_size ks) (n % block_size ks)
    ∙ ap (λ x. r * (new_count k * block_size ks) + x) (div-add-mod' n (block_size ks))

-- ---- a position for each level, and the level of each

pub positions_after : (r : ℕ) (k : List ℕ) (n : ℕ) → length (point_after r k n) ≡ length k
unfolding point_after
positions_after r [] n = refl
positions_after r (k ∷ ks) n = ap suc (positions_after (r * new_count k + n / block_size ks) ks (n % block_size ks))

pub positions : (k : List ℕ) (n : ℕ) → length (point_of k n) ≡ length k
unfolding point_of
positions k n = positions_after 0 k n

levels_of_lem : (k p : List ℕ) → Levels 8 k → new_on_each k p ≡ true → map level_of p ≡ k
unfolding new_on_each
levels_of_lem [] [] w e = refl
levels_of_lem [] (p ∷ ps) w e = clash e
levels_of_lem (k ∷ ks) [] w e = clash e
levels_of_lem (k ∷ ks) (p ∷ ps) w e =
    ap₂ (λ (x : ℕ) (xs : List ℕ). x ∷ xs)
    (eqb-true (level_of p) k (sym (new_at_lem k p w.0 w.1) ∙ and_left (new_at k p) (new_on_each ks ps) e))
    (levels_of_lem ks ps w.2 (and_right (new_at k p) (new_on_each ks ps) e))

-- ---- as the statement has them

at_in : (l : List (List ℕ)) (n : ℕ) → n < length l → Memᴰ (get_or l n []) l
at_in [] n h = absurd (omega arith)
at_in (x ∷ l) zero h = Memᴰ.head refl
at_in (x ∷ l) (suc n) h = Memᴰ.tail (at_in l n (omega arith))

-- with no earlier axes the rank is the number
pub first_rank : (s n : ℕ) → 0 * s + n ≡ n
first_rank s n = omega (arith, NatL.zero-mul s)

module _ (k : List ℕ) (v : levels_within k ≡ true) where
  pub new : (n : ℕ) → n < block_size k → new_on_each k (point_of k n) ≡ true
  unfolding point_of
  new n h = points_new 0 k n (levels_sure k v) h

  pub rank_of_point : (n : ℕ) → n < block_size k → rank_in k (point_of k n) ≡ n
  unfolding point_of rank_in
  rank_of_point n h = ranks_of_points 0 k n (levels_sure k v) h ∙ first_rank (block_size k) n

  number_is : (p : List ℕ) (e : new_on_each k p ≡ true) → rank_in k p ≡ (ranked 0 k p (levels_sure k v) e).number
  unfolding rank_in
  number_is p e = (ranked 0 k p (levels_sure k v) e).rank ∙ first_rank (block_size k) (ranked 0 k p (levels_sure k v) e).number

  pub rank_is_below : (p : List ℕ) → new_on_each k p ≡ true → rank_in k p < block_size k
  rank_is_below p e = subst (λ n. n < block_size k) (sym (number_is p e)) (ranked 0 k p (levels_sure k v) e).below

  pub point_of_rank : (p : List ℕ) → new_on_each k p ≡ true → point_of k (rank_in k p) ≡ p
  unfolding point_of
  point_of_rank p e = ap (point_after 0 k) (number_is p e) ∙ (ranked 0 k p (levels_sure k v) e).point

  pub levels : (p : List ℕ) → new_on_each k p ≡ true → map level_of p ≡ k
  levels p e = levels_of_lem k p (levels_sure k v) e

  pub different : (n m : ℕ) → n < block_size k → m < block_size k → point_of k n ≡ point_of k m → n ≡ m
  different n m a b e = sym (rank_of_point n a) ∙ ap (rank_in k) e ∙ rank_of_point m b

  pub every : (p : List ℕ) → new_on_each k p ≡ true → Memᴰ p (block k)
  every p e =
      subst (λ x. Memᴰ x (block k)) (nth k (rank_in k p) (rank_is_below p e) ∙ point_of_rank p e)
      (at_in (block k) (rank_in k p) (rw (size k) (rank_is_below p e)))
