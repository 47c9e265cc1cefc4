-- What appending keeps: the number of records, and at every other place all but the links; and the new backward links are held places.
-- Assumes nothing.
use mathlib.Core.Path.{◌≡◌, refl, ap, ◌∙◌, subst}
use mathlib.Core.Logic.{◌≢◌, ◌⊎◌}
use mathlib.Core.List.{List, [], ◌∷◌}
use Prim.Native.Nat.{ℕ, ◌+◌, ◌<◌, ◌≤◌}
use native.Mathlib.Omega.{arith}
use lib.ListN.{length, get_or, take, length-set, length-map}
use lib.Seq.{length-take-le, get_or-set_same, get_or-set_other}
use Rattle.grid.specs.Index.{forward}
use Rattle.area.specs.declared.IndexRecord.{IndexRecord}
use Rattle.area.specs.declared.Settings.{Settings}
use Rattle.area.specs.Settings.{reading_count}
use Rattle.area.specs.Records.{blank, levels_of}
use Rattle.area.specs.Encoding.{none}
use Rattle.quadrature.specs.Readings.{record_at}
use Rattle.soundness.specs.Held.{levels_at, state_at}
use Rattle.writing.specs.Changes.{admitted_record, new_links, named_from, appended, appended_all}
use Rattle.writing.proofs.Links.{new_bounded}
use Rattle.writing.proofs.Named.{named-length, named_levels, named_state, named_indicator, named-first}

-- ---- one index appended

-- each backward link of an index looked up among the first n records is none or one of their places
pub new_held : (rs : List IndexRecord) (n : ℕ) (x : List ℕ) → n ≤ length rs → (a : ℕ) → a < 8
    → (get_or (new_links (levels_of (take n rs)) x) (8 + a) 0 ≡ none) ⊎ (get_or (new_links (levels_of (take n rs)) x) (8 + a) 0 < n)
unfolding levels_of
new_held rs n x h a g =
    subst (λ m. (link ≡ none) ⊎ (link < m)) (length-map (take n rs) (λ (r : IndexRecord). r.levels) ∙ length-take-le n rs h) (new_bounded (levels_of (take n rs)) x a g)
  where
    link : ℕ
    link = get_or (new_links (levels_of (take n rs)) x) (8 + a) 0

module _ (rs : List IndexRecord) (n f : ℕ) (x : List ℕ) where
  abbrev links : List ℕ
  links = new_links (levels_of (take n rs)) x

  abbrev named : List IndexRecord
  named = named_from 8 0 links n rs

  pub appended-length : length (appended rs n f x) ≡ length rs
  unfolding appended
  appended-length = length-set named n (admitted_record links x f) ∙ named-length links n 8 0 rs

  pub appended_here : n < length rs → record_at (appended rs n f x) n ≡ admitted_record links x f
  unfolding appended
  appended_here h = get_or-set_same named n (admitted_record links x f) blank (omega (arith, named-length links n 8 0 rs))

  module _ (p : ℕ) (other : p ≢ n) where
    elsewhere : record_at (appended rs n f x) p ≡ record_at named p
    unfolding appended
    elsewhere = get_or-set_other named n p (admitted_record links x f) blank other

    pub appended_levels : levels_at (appended rs n f x) p ≡ levels_at rs p
    appended_levels = ap (λ (r : IndexRecord). r.levels) elsewhere ∙ named_levels links n 8 0 rs p

    pub appended_state : state_at (appended rs n f x) p ≡ state_at rs p
    appended_state = ap (λ (r : IndexRecord). r.state) elsewhere ∙ named_state links n 8 0 rs p

    pub appended_indicator : (record_at (appended rs n f x) p).indicator ≡ (record_at rs p).indicator
    appended_indicator = ap (λ (r : IndexRecord). r.indicator) elsewhere ∙ named_indicator links n 8 0 rs p

    pub appended-first : (record_at (appended rs n f x) p).first ≡ (record_at rs p).first
    appended-first = ap (λ (r : IndexRecord). r.first) elsewhere ∙ named-first links n 8 0 rs p

-- ---- several in turn

pub appended_all_length : (g : Settings) (rs : List IndexRecord) (n f : ℕ) (k axes : List ℕ) → length (appended_all g rs n f k axes) ≡ length rs
unfolding appended_all
appended_all_length g rs n f k [] = refl
appended_all_length g rs n f k (a ∷ axes) =
    appended_all_length g (appended rs n f (forward k a)) (n + 1) (f + reading_count g (forward k a)) k axes ∙ appended-length rs n f (forward k a)

-- the places below n
module _ (p : ℕ) where
  pub appended_all_levels : (g : Settings) (rs : List IndexRecord) (n f : ℕ) (k axes : List ℕ) → p < n → levels_at (appended_all g rs n f k axes) p ≡ levels_at rs p
  unfolding appended_all
  appended_all_levels g rs n f k [] h = refl
  appended_all_levels g rs n f k (a ∷ axes) h =
      appended_all_levels g (appended rs n f (forward k a)) (n + 1) (f + reading_count g (forward k a)) k axes (omega arith) ∙ appended_levels rs n f (forward k a) p (λ e. omega arith)

  pub appended_all_state : (g : Settings) (rs : List IndexRecord) (n f : ℕ) (k axes : List ℕ) → p < n → state_at (appended_all g rs n f k axes) p ≡ state_at rs p
  unfolding appended_all
  appended_all_state g rs n f k [] h = refl
  appended_all_state g rs n f k (a ∷ axes) h =
      appended_all_state g (appended rs n f (forward k a)) (n + 1) (f + reading_count g (forward k a)) k axes (omega arith) ∙ appended_state rs n f (forward k a) p (λ e. omega arith)
