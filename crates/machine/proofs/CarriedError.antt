-- How the steps move the carried error.
-- The idea: an entry that is not old has no part in it, so only making one old adds anything.
-- Assumes nothing.
use mathlib.Core.Path.{◌≡◌, refl, ◌∙◌}
use mathlib.Core.Bool.{Bool, true, false, cond}
use mathlib.Core.List.{List, [], ◌∷◌, ◌++◌, map}
use Prim.Native.Nat.{ℕ, ◌+◌, ◌<◌}
use native.Mathlib.Omega.{arith}
use lib.IntN.{ℤ}
use lib.ListN.{length}
use Rattle.grid.specs.Index.{at_ceiling, forward}
use Rattle.area.specs.Entry.{Entry, carried_of}
use Rattle.area.proofs.Carried.{carried_facts}
use Rattle.encoding.specs.Entries.{no_entry, entry_at}
use Rattle.machine.specs.Log.{wanted, first_wanted}
use Rattle.machine.specs.Promote.{made_old, make_old, admitted_axes, refine}
use Rattle.machine.specs.Steps.{started, delivered, deliver_at}
use Rattle.machine.specs.Facts.{CarriedSteps}
use Rattle.machine.proofs.Wanted.{first_is}

module _ (d : ℕ) where
  -- what is wanted has no part
  wanted-none : (k : List ℕ) → carried_of d (wanted k ∷ []) ≡ 0
  unfolding wanted
  wanted-none k = carried_facts.not_old d (wanted k) (λ e. omega (arith, e))

  empty : carried_of d [] ≡ 0
  empty = unfold carried_of in refl

  pub carried_before : (es : List Entry) (ks : List (List ℕ)) → carried_of d (es ++ map wanted ks) ≡ carried_of d es
  carried_before es ks = omega (arith, carried_facts.append d es (map wanted ks), all ks)
    where
      all : (ks : List (List ℕ)) → carried_of d (map wanted ks) ≡ 0
      all [] = empty
      all (k ∷ ks) = omega (arith, carried_facts.append d (wanted k ∷ []) (map wanted ks), wanted-none k, all ks)

  deliver_keeps : (es : List Entry) (rs : List ℤ) (i : ℕ) → first_wanted es < length es → carried_of d (deliver_at es (first_wanted es) rs i) ≡ carried_of d es
  unfolding deliver_at delivered
  deliver_keeps es rs i h =
      let w = first_wanted es in
      omega
      (arith, carried_facts.replaced d es w (delivered (entry_at es w) rs i) no_entry h, carried_facts.not_old d (entry_at es w) (λ e. omega (arith, e, first_is es h)), carried_facts.not_old d (delivered (entry_at es w) rs i) (λ e. omega (arith, e)))

  -- making an active entry old
  module _ (es : List Entry) (p : ℕ) (h : p < length es) (active : (entry_at es p).state ≡ 1) where
    abbrev e : Entry
    e = entry_at es p

    now_old : carried_of d (made_old e ∷ []) ≡ cond (at_ceiling d e.levels) e.indicator 0
    unfolding made_old
    now_old = step (at_ceiling d e.levels) refl
      where
        step : (t : Bool) → at_ceiling d e.levels ≡ t → carried_of d (made_old e ∷ []) ≡ cond t e.indicator 0
        step true c = carried_facts.own d (made_old e) refl c
        step false c = carried_facts.not_at_ceiling d (made_old e) c

    pub carried_make_old : carried_of d (make_old es p) ≡ carried_of d es + cond (at_ceiling d e.levels) e.indicator 0
    unfolding make_old
    carried_make_old =
        omega
        (arith, carried_facts.replaced d es p (made_old e) no_entry h, carried_facts.not_old d e (λ s. omega (arith, s, active)), now_old)

    refine_raises : carried_of d (refine d es p) ≡ carried_of d es + cond (at_ceiling d e.levels) e.indicator 0
    unfolding refine
    refine_raises = ahead (admitted_axes d (make_old es p) e.levels) ∙ carried_make_old
      where
        none : (axes : List ℕ) → carried_of d (map (λ a. wanted (forward e.levels a)) axes) ≡ 0
        none [] = empty
        none (a ∷ axes) =
            omega
            (arith, carried_facts.append d (wanted (forward e.levels a) ∷ []) (map (λ b. wanted (forward e.levels b)) axes), wanted-none (forward e.levels a), none axes)

        ahead : (axes : List ℕ) → carried_of d (make_old es p ++ map (λ a. wanted (forward e.levels a)) axes) ≡ carried_of d (make_old es p)
        ahead axes = omega (arith, carried_facts.append d (make_old es p) (map (λ a. wanted (forward e.levels a)) axes), none axes)

pub carried_steps : CarriedSteps
carried_steps =
    record {
      start = λ d g. unfold started in wanted-none d _;
      deliver = deliver_keeps;
      refine = refine_raises;
    }
