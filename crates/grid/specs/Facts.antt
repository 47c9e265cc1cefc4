-- What is proved of the grid, a field for each fact; proofs/Facts.antt has a value of each record.
use Rattle.std.specs.Prelude.{◌≡◌, ◌≢◌, ◌⊎◌, true, cond, ℕ, suc, ◌+◌, ◌*◌, ◌-◌, ◌/◌, ◌%◌, ◌^◌, ◌<◌, ◌≤◌, ltb, ℤ, pos, nat_abs, ◌+ℤ◌, ◌*ℤ◌, length, get_or, take, drop, replicate}
use mathlib.Core.List.{List, [], ◌++◌, map, Memᴰ}
use Rattle.sums.specs.Sums.{sum_to, sum_of}
use Rattle.rule.specs.Points.{level_of}
use Rattle.rule.specs.Rules.{whole_rule, difference_rule}
use Rattle.grid.specs.Index.{level, excess, Within, levels_within, within, Index, root, forward, backward, capped_axes, at_ceiling, NowhereHigher, lower}
use Rattle.grid.specs.Block.{block, block_size, point_after, point_of, rank_in, new_on_each}
use Rattle.grid.specs.Difference.{Readings, units, difference_product, difference_sum, scaled_difference, difference_walk, scaled_mean}
use Rattle.grid.specs.Coefficient.{is_in, subsets, sign, raised_on, coefficient, marks}
use Rattle.grid.specs.Tensor.{tensor_sum, tensor_rule}
use Rattle.grid.specs.Cross.{cross_total}
use Rattle.grid.specs.Terms.{NoDup, OneStep, InRange, Agree, block_sum, whole_product, lowered_on, tensor_product, sampled, pad, padded, centred, DownSet}

-- ---- indices

pub record IndexFacts : Type 0 where
  -- the test is the ceilings
  pub within_sure : (k : List ℕ) → within k ≡ true → Within k
  pub within_back : (k : List ℕ) → Within k → within k ≡ true
  -- the root has no excess and no backward neighbour; it is an index of every job
  pub root_excess : excess root ≡ 0
  pub root_first : (a : ℕ) → 1 < level root a → ⊥
  pub root_index : (d : ℕ) → Index d root
  -- a forward neighbour is one level higher along its axis, the same along the others, and has one more excess
  pub forward_level : (k : List ℕ) (a : ℕ) → a < length k → level (forward k a) a ≡ suc (level k a)
  pub forward_other : (k : List ℕ) (a b : ℕ) → b ≢ a → level (forward k a) b ≡ level k b
  pub forward_length : (k : List ℕ) (a : ℕ) → length (forward k a) ≡ length k
  pub forward_excess : (k : List ℕ) (a : ℕ) → a < length k → 1 ≤ level k a → excess (forward k a) ≡ suc (excess k)
  -- a backward neighbour is what it is a forward neighbour of, and the other way round
  pub backward_forward : (k : List ℕ) (a : ℕ) → a < length k → backward (forward k a) a ≡ k
  pub forward_backward : (k : List ℕ) (a : ℕ) → a < length k → 1 < level k a → forward (backward k a) a ≡ k
  -- `lower` lists the indices nowhere higher, each once
  pub lower_sure : (k l : List ℕ) → Memᴰ l (lower k) → NowhereHigher l k
  pub lower_back : (k l : List ℕ) → NowhereHigher l k → Memᴰ l (lower k)
  pub lower_once : (k : List ℕ) → NoDup (lower k)
  -- the test for an index in a list is membership
  pub in_sure : (J : List (List ℕ)) (k : List ℕ) → is_in J k ≡ true → Memᴰ k J
  pub in_back : (J : List (List ℕ)) (k : List ℕ) → Memᴰ k J → is_in J k ≡ true
  -- within the ceilings the units of eight axes come to 20 at most
  pub units_small : (k : List ℕ) → length k ≡ 8 → Within k → units k ≤ 20

-- ---- indices at a ceiling

pub record CeilingFacts : Type 0 where
  -- the test says yes exactly if a forward neighbour along one of d axes is past a ceiling
  pub sure : (d : ℕ) (k : List ℕ) → at_ceiling d k ≡ true → (a : ℕ) × (a < d) × (Within (forward k a) → ⊥)
  pub back : (d : ℕ) (k : List ℕ) (a : ℕ) → a < d → (Within (forward k a) → ⊥) → at_ceiling d k ≡ true
  -- if the forward neighbour of an index within the ceilings is past one, it has level 9 or an excess of 13
  pub nine_or_thirteen : (k : List ℕ) (a : ℕ) → length k ≡ 8 → a < 8 → Within k → (Within (forward k a) → ⊥)
      → (level (forward k a) a ≡ 9) ⊎ (excess (forward k a) ≡ 13)
  -- an index is at a ceiling exactly if `capped_axes` counts an axis
  pub counted : (d : ℕ) (k : List ℕ) → at_ceiling d k ≡ ltb 0 (capped_axes d k)
  -- the axes beyond d decide nothing: along them an index of d axes stands at level 1, so only the excess can stop it, and that along every axis
  pub axes_alike : (d : ℕ) (k : List ℕ) → 1 ≤ d → d ≤ 8 → Index d k → at_ceiling 8 k ≡ at_ceiling d k

-- ---- blocks, for levels from 1 to 8

pub record BlockFacts : Type 0 where
  -- the block's length is the product of the counts, and the n-th point is the one given by number
  pub size : (k : List ℕ) → length (block k) ≡ block_size k
  pub nth : (k : List ℕ) (n : ℕ) → n < block_size k → get_or (block k) n [] ≡ point_of k n
  -- its points are exactly the points that are new on each axis
  pub new : (k : List ℕ) (n : ℕ) → levels_within k ≡ true → n < block_size k → new_on_each k (point_of k n) ≡ true
  pub every : (k p : List ℕ) → levels_within k ≡ true → new_on_each k p ≡ true → Memᴰ p (block k)
  -- pairwise different
  pub different : (k : List ℕ) (n m : ℕ) → levels_within k ≡ true → n < block_size k → m < block_size k
      → point_of k n ≡ point_of k m → n ≡ m
  -- the rank of a point in its block, and back
  pub rank_of_point : (k : List ℕ) (n : ℕ) → levels_within k ≡ true → n < block_size k → rank_in k (point_of k n) ≡ n
  pub rank_below : (k p : List ℕ) → levels_within k ≡ true → new_on_each k p ≡ true → rank_in k p < block_size k
  pub point_of_rank : (k p : List ℕ) → levels_within k ≡ true → new_on_each k p ≡ true → point_of k (rank_in k p) ≡ p
  -- a point has a position for each level, and a position tells its level
  pub positions : (k : List ℕ) (n : ℕ) → length (point_of k n) ≡ length k
  pub levels : (k p : List ℕ) → levels_within k ≡ true → new_on_each k p ≡ true → map level_of p ≡ k
  -- the order, for any number of axes: the first i axes are the earlier ones, and the axis after them is axis i + 1
  -- behind the point of the earlier axes ks whose number is r, the axes left are walked with this rank
  pub behind_point : (ks ls : List ℕ) (r m : ℕ) → r < block_size ks → m < block_size ls
      → point_of (ks ++ ls) (r * block_size ls + m) ≡ point_of ks r ++ point_after r ls m
  -- the earlier axes' points are the walk of those axes alone, each kept while the axes left are gone through once
  pub earlier : (k : List ℕ) (i n : ℕ) → levels_within k ≡ true → n < block_size k
      → take i (point_of k n) ≡ point_of (take i k) (n / block_size (drop i k))
  -- the rank with which the axes left are walked is that of the earlier axes' point in the walk of those axes alone
  pub turning_rank : (k : List ℕ) (i n : ℕ) → levels_within k ≡ true → n < block_size k
      → drop i (point_of k n) ≡ point_after (rank_in (take i k) (take i (point_of k n))) (drop i k) (n % block_size (drop i k))
  -- axis 1 rises: it never falls, and stays while the later axes are walked
  pub first_rises : (k : List ℕ) (n m : ℕ) → levels_within k ≡ true → n ≤ m → m < block_size k
      → get_or (point_of k n) 0 0 ≤ get_or (point_of k m) 0 0
  -- behind one point of the earlier axes, axis i + 1 rises if the rank of that point is even, and falls if it is odd: it never goes the
  -- other way, and as the points are pairwise different it stays only while the axes behind it are walked
  pub rises : (k : List ℕ) (i n m : ℕ) → levels_within k ≡ true → n ≤ m → m < block_size k
      → take i (point_of k n) ≡ take i (point_of k m) → rank_in (take i k) (take i (point_of k n)) % 2 ≡ 0
      → get_or (point_of k n) i 0 ≤ get_or (point_of k m) i 0
  pub falls : (k : List ℕ) (i n m : ℕ) → levels_within k ≡ true → n ≤ m → m < block_size k
      → take i (point_of k n) ≡ take i (point_of k m) → rank_in (take i k) (take i (point_of k n)) % 2 ≡ 1
      → get_or (point_of k m) i 0 ≤ get_or (point_of k n) i 0
  -- two points in a row differ on one axis only, and there by one step among the new points
  pub one_step : (k : List ℕ) (n : ℕ) → levels_within k ≡ true → suc n < block_size k → OneStep k (point_of k n) (point_of k (suc n))

-- ---- differences and full tensor rules

pub record DifferenceFacts : Type 0 where
  -- the difference worked axis by axis
  pub difference_walk_lem : (k : List ℕ) (R : Readings) → difference_sum k R ≡ difference_walk k R
  -- only the readings of the blocks nowhere higher count
  pub difference_only : (k : List ℕ) (R Q : Readings) → Agree k R Q → scaled_difference k R ≡ scaled_difference k Q
  pub tensor_only : (k : List ℕ) (R Q : Readings) → Agree k R Q → tensor_rule k R ≡ tensor_rule k Q
  -- times 2^20 both are whole: nothing is truncated
  pub difference_whole : (k : List ℕ) (R : Readings) → length k ≡ 8 → Within k
      → pos (2 ^ units k) *ℤ scaled_difference k R ≡ pos (2 ^ 20) *ℤ difference_sum k R
  pub tensor_whole : (k : List ℕ) (R : Readings) → length k ≡ 8 → Within k
      → pos (2 ^ units k) *ℤ tensor_rule k R ≡ pos (2 ^ 20) *ℤ tensor_sum k R
  -- and of size at most 2^40
  pub difference_size : (k : List ℕ) (R : Readings) → length k ≡ 8 → Within k → InRange k R
      → nat_abs (scaled_difference k R) ≤ 2 ^ 40
  pub tensor_size : (k : List ℕ) (R : Readings) → length k ≡ 8 → Within k → InRange k R
      → nat_abs (tensor_rule k R) ≤ 2 ^ 40
  -- linear in the readings
  pub difference_linear : (k : List ℕ) (a b : ℤ) (R Q : Readings)
      → scaled_difference k (λ l n. a *ℤ R l n +ℤ b *ℤ Q l n) ≡ a *ℤ scaled_difference k R +ℤ b *ℤ scaled_difference k Q
  pub tensor_linear : (k : List ℕ) (a b : ℤ) (R Q : Readings)
      → tensor_rule k (λ l n. a *ℤ R l n +ℤ b *ℤ Q l n) ≡ a *ℤ tensor_rule k R +ℤ b *ℤ tensor_rule k Q
  -- the block-sum form: a weight belongs to a block, so the order inside a block cannot matter
  pub difference_blocks : (k : List ℕ) (R : Readings)
      → difference_sum k R ≡ sum_of (lower k) (λ l. difference_product k l *ℤ block_sum R l)
  pub tensor_blocks : (k : List ℕ) (R : Readings)
      → tensor_sum k R ≡ sum_of (lower k) (λ l. whole_product k l *ℤ block_sum R l)
  -- the difference is the alternating sum of full tensor rules of lower indices; a rule with a level 0 is 0
  pub alternating : (k : List ℕ) (R : Readings) → length k ≡ 8 → Within k
      → scaled_difference k R ≡ sum_of (subsets 8) (λ S. sign S *ℤ tensor_rule (lowered_on k S) R)
  -- for readings taken from a function on positions the rule of an index is the rule of each axis inside the one before it: the
  -- whole rules, which `RuleFacts.centre` and `RuleFacts.source` tie to the source, and the difference rules
  pub tensor_sampled : (k : List ℕ) (f : List ℕ → ℤ) → levels_within k ≡ true
      → tensor_sum k (sampled f) ≡ tensor_product whole_rule k f
  pub difference_sampled : (k : List ℕ) (f : List ℕ → ℤ) → levels_within k ≡ true
      → difference_sum k (sampled f) ≡ tensor_product difference_rule k f

-- ---- axes at level 1 change nothing

pub record LevelOneFacts : Type 0 where
  pub within_same : (k : List ℕ) (m : ℕ) → within (pad m k) ≡ within k
  pub excess_same : (k : List ℕ) (m : ℕ) → excess (pad m k) ≡ excess k
  pub units_same : (k : List ℕ) (m : ℕ) → units (pad m k) ≡ units k
  pub size_same : (k : List ℕ) (m : ℕ) → block_size (pad m k) ≡ block_size k
  pub point_same : (k : List ℕ) (m n : ℕ) → point_of (pad m k) n ≡ point_of k n ++ replicate m 64
  pub difference_same : (k : List ℕ) (m : ℕ) (R : Readings) → scaled_difference (pad m k) R ≡ scaled_difference k (padded m R)
  pub tensor_same : (k : List ℕ) (m : ℕ) (R : Readings) → tensor_rule (pad m k) R ≡ tensor_rule k (padded m R)
  pub coefficient_same : (J : List (List ℕ)) (k : List ℕ) (m : ℕ) → coefficient (map (pad m) J) (pad m k) ≡ coefficient J k
  pub mean_same : (J : List (List ℕ)) (m : ℕ) (R : Readings) → scaled_mean (map (pad m) J) R ≡ scaled_mean J (padded m R)
  pub cross_same : (J : List (List ℕ)) (m : ℕ) (R : Readings) → cross_total (map (pad m) J) R ≡ cross_total J (padded m R)
  -- an index of a job with d axes, of eight levels, is its first d levels with level 1 appended up to eight, and these are within the ceilings
  pub job_levels : (d : ℕ) (k : List ℕ) → d ≤ 8 → Index d k → (k ≡ pad (8 - d) (take d k)) × (length (take d k) ≡ d) × Within (take d k)
  -- and d levels within the ceilings with level 1 appended up to eight are such an index
  pub job_index : (k : List ℕ) (m : ℕ) → length k + m ≡ 8 → Within k → Index (length k) (pad m k)
  -- different levels stay different
  pub pad_once : (k l : List ℕ) (m : ℕ) → pad m k ≡ pad m l → k ≡ l
  -- the root, and an index in a list
  pub root_same : (d : ℕ) → d ≤ 8 → root ≡ pad (8 - d) (replicate d 1)
  pub in_same : (J : List (List ℕ)) (k : List ℕ) (m : ℕ) → is_in (map (pad m) J) (pad m k) ≡ is_in J k
  -- neighbours along the axes of k
  pub level_same : (k : List ℕ) (m a : ℕ) → a < length k → level (pad m k) a ≡ level k a
  pub forward_same : (k : List ℕ) (m a : ℕ) → a < length k → forward (pad m k) a ≡ pad m (forward k a)
  pub backward_same : (k : List ℕ) (m a : ℕ) → a < length k → backward (pad m k) a ≡ pad m (backward k a)
  -- along how many of the first d axes the forward neighbour passes a ceiling
  pub capped_same : (d : ℕ) (k : List ℕ) (m : ℕ) → d ≤ length k → capped_axes d (pad m k) ≡ capped_axes d k
  pub ceiling_same : (d : ℕ) (k : List ℕ) (m : ℕ) → d ≤ length k → at_ceiling d (pad m k) ≡ at_ceiling d k
  -- nowhere higher, both ways; and the indices nowhere higher are the same, each with level 1 appended
  pub higher_same : (l k : List ℕ) (m : ℕ) → NowhereHigher l k → NowhereHigher (pad m l) (pad m k)
  pub higher_back : (l k : List ℕ) (m : ℕ) → NowhereHigher (pad m l) (pad m k) → NowhereHigher l k
  pub lower_same : (k : List ℕ) (m : ℕ) → lower (pad m k) ≡ map (pad m) (lower k)
  -- the tensor product of difference rules, where the appended axes stand at the centre
  pub product_same : (k : List ℕ) (m : ℕ) (f : List ℕ → ℤ) → tensor_product difference_rule (pad m k) f ≡ tensor_product difference_rule k (centred m f)

-- ---- the combination identity

pub record Combination : Type 0 where
  -- over a finite, duplicate-free, downward closed set the sum of differences equals the sum of coefficient times full tensor
  -- rule, whatever the readings
  pub identity : (J : List (List ℕ)) (R : Readings) → DownSet J → scaled_mean J R ≡ cross_total J R
  -- and the coefficients of such a set that holds the root sum to 1
  pub coefficients_one : (J : List (List ℕ)) → DownSet J → Memᴰ root J → sum_of J (coefficient J) ≡ pos 1
  -- the subsets of eight axes are the masks below 256
  pub masks : (J : List (List ℕ)) (k : List ℕ) → length k ≡ 8
      → coefficient J k ≡ sum_to 256 (λ m. cond (is_in J (raised_on k (marks 8 m))) (sign (marks 8 m)) (pos 0))
