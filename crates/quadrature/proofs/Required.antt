-- What the functions require can be met: an area that holds the delivered root alone meets it.
-- The idea: only the root is nowhere higher than the root, so every clause is about place 0.
-- Assumes nothing.
use mathlib.Core.Path.{◌≡◌, refl, sym, ap, ◌∙◌, subst}
use mathlib.Core.Logic.{⊎_elim}
use mathlib.Core.List.Memᴰ
use mathlib.Core.List.{List}
use Prim.Native.Nat.{ℕ, zero, suc, ◌+◌, ◌<◌, ◌≤◌}
use native.Mathlib.Omega.{arith}
use lib.IntN.{ℤ}
use lib.ListN.{length, get_or}
use Rattle.sums.specs.Lists.{tabulate}
use Rattle.grid.specs.Index.{level, root, forward, lower, in_front, NowhereHigher}
use Rattle.grid.specs.Block.{block_size}
use Rattle.grid.specs.Coefficient.{same_levels}
use Rattle.grid.specs.Terms.{IsReading}
use Rattle.rule.specs.Points.{new_count}
use Rattle.grid.proofs.Lower.{lower_back}
use Rattle.grid.proofs.Neighbours.{root-level, root-within}
use Rattle.area.specs.declared.IndexRecord.{IndexRecord}
use Rattle.area.specs.declared.Settings.{Settings}
use Rattle.area.specs.Records.{levels_of}
use Rattle.area.specs.Entry.{indices_of}
use Rattle.area.specs.Encoding.{place_from, place_of, links_of, encoded, encoded_from, records_for, store_for, none}
use Rattle.quadrature.specs.Readings.{record_at, place_in, stored_reading}
use Rattle.quadrature.specs.Ready.{Ready, AllReady}
use Rattle.quadrature.specs.Linked.{Linked}
use Rattle.quadrature.specs.Facts.{root_alone, RequiredFacts}

only-root : (l : List ℕ) → NowhereHigher l root → l ≡ root
unfolding lower in_front root
only-root l h = ⊎_elim (λ e. e) (λ m. absurd (Memᴰ.not-nil m)) (Memᴰ.cases_cons (lower_back root l h))

module _ (g : Settings) (d : ℕ) (few : d ≤ 8) (x : ℤ) where
  abbrev rs : List IndexRecord
  rs = records_for g (root_alone x)

  abbrev s : List ℤ
  s = store_for (root_alone x)

  root_at : place_in rs root ≡ 0
  unfolding records_for encoded_from encoded root_alone levels_of place_of place_from root same_levels
  root_at = refl

  one : length rs ≡ 1
  unfolding records_for encoded_from encoded root_alone
  one = refl

  levels_at_lem : (record_at rs 0).levels ≡ root
  unfolding records_for encoded_from encoded root_alone
  levels_at_lem = refl

  -- no forward neighbour is held, and the links say so
  ahead_at : (a : ℕ) → a < 8 → get_or (record_at rs 0).links a none ≡ place_in rs (forward root a)
  unfolding records_for encoded_from encoded root_alone levels_of place_of place_from root same_levels links_of tabulate forward indices_of
  ahead_at zero h = refl
  ahead_at (suc zero) h = refl
  ahead_at (suc (suc zero)) h = refl
  ahead_at (suc (suc (suc zero))) h = refl
  ahead_at (suc (suc (suc (suc zero)))) h = refl
  ahead_at (suc (suc (suc (suc (suc zero))))) h = refl
  ahead_at (suc (suc (suc (suc (suc (suc zero)))))) h = refl
  ahead_at (suc (suc (suc (suc (suc (suc (suc zero))))))) h = refl
  ahead_at (suc (suc (suc (suc (suc (suc (suc (suc a)))))))) h = absurd (omega arith)

  at_root : (C : List ℕ → Type 0) → C root → (l : List ℕ) → NowhereHigher l root → C l
  at_root C y l h = subst C (sym (only-root l h)) y

  read : stored_reading rs s root 0 ≡ x
  unfolding stored_reading records_for encoded_from encoded root_alone levels_of place_of place_from root same_levels store_for
  read = refl

  room_at : (record_at rs (place_in rs root)).first + block_size root ≤ length s
  unfolding records_for encoded_from encoded root_alone levels_of place_of place_from root same_levels store_for block_size new_count
  room_at = omega arith

  state_at_lem : 1 ≤ (record_at rs (place_in rs root)).state
  unfolding records_for encoded_from encoded root_alone levels_of place_of place_from root same_levels
  state_at_lem = omega arith

  size-one : block_size root ≡ 1
  unfolding block_size new_count root
  size-one = refl

  eight-root : length root ≡ 8
  unfolding root
  eight-root = refl

  in_range_lem : IsReading x → (n : ℕ) → n < block_size root → IsReading (stored_reading rs s root n)
  in_range_lem small n h = subst (λ m. IsReading (stored_reading rs s root m)) (sym zero_is) (subst IsReading (sym read) small)
    where
      zero_is : n ≡ 0
      zero_is = omega (arith, size-one)

  ready : IsReading x → Ready d rs s root
  ready small =
      record {
        axes = few;
        eight = eight-root;
        ceilings = root-within;
        beyond = λ a i j. root-level a j;
        root_place = root_at;
        found = at_root (λ l. place_in rs l < 512) (omega (arith, root_at));
        delivered = at_root (λ l. 1 ≤ (record_at rs (place_in rs l)).state) state_at_lem;
        room = at_root (λ l. (record_at rs (place_in rs l)).first + block_size l ≤ length s) room_at;
        range = λ l n h q. at_root (λ m. (i : ℕ) → i < block_size m → IsReading (stored_reading rs s m i)) (in_range_lem small) l h n q;
        ahead = λ l a b h f.
            at_root (λ m. get_or (record_at rs (place_in rs m)).links a none ≡ place_in rs (forward m a)) (ap (λ p. get_or (record_at rs p).links a none) root_at ∙ ahead_at a b) l h;
      }

  -- there is one place
  at_first : (C : ℕ → Type 0) → C 0 → (p : ℕ) → p < length rs → C p
  at_first C y p h = subst C (sym first_is) y
    where
      first_is : p ≡ 0
      first_is = omega (arith, one)

  all_ready : IsReading x → AllReady d 1 rs s
  all_ready small =
      record {
        few = omega arith;
        room = omega (arith, one);
        ready = λ p h w. at_first (λ q. Ready d rs s (record_at rs q).levels) (subst (Ready d rs s) (sym levels_at_lem) (ready small)) p (omega (arith, one));
      }

  linked : Linked d rs
  linked =
      record {
        axes = few;
        few = omega (arith, one);
        eight = at_first (λ p. length (record_at rs p).levels ≡ 8) (ap length levels_at_lem ∙ eight-root);
        low = λ p a h b. at_first (λ q. 1 ≤ level (record_at rs q).levels a) (omega (arith, ap (λ k. level k a) levels_at_lem, root-level a b)) p h;
        high = λ p a h b. at_first (λ q. level (record_at rs q).levels a ≤ 8) (omega (arith, ap (λ k. level k a) levels_at_lem, root-level a b)) p h;
        beyond = λ p a h i b. at_first (λ q. level (record_at rs q).levels a ≡ 1) (ap (λ k. level k a) levels_at_lem ∙ root-level a b) p h;
        own = at_first (λ p. place_in rs (record_at rs p).levels ≡ p) (ap (place_in rs) levels_at_lem ∙ root_at);
        lower = λ p k h w.
            at_first (λ q. NowhereHigher k (record_at rs q).levels → place_in rs k < length rs)
            (λ v. at_root (λ m. place_in rs m < length rs) (omega (arith, root_at, one)) k (subst (NowhereHigher k) levels_at_lem v)) p h w;
        ahead = λ p a h b. at_first (λ q. get_or (record_at rs q).links a none ≡ place_in rs (forward (record_at rs q).levels a)) (ahead_at a b ∙ ap (λ k. place_in rs (forward k a)) (sym levels_at_lem)) p h;
      }

pub required_facts : (g : Settings) → RequiredFacts g
required_facts g = record { ready = λ d x h r. ready g d h x r; all_ready = λ d x h r. all_ready g d h x r; linked = λ d x h. linked g d h x }
