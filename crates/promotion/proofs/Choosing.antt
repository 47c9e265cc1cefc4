-- Choosing in a valid area: met or capped by the recorded errors, and else the selected place, which is an active one.
-- The idea: the recorded errors are those of the entries, and the search sees entries without readings, which select alike.
-- Assumes nothing.
use mathlib.Core.Path.{◌≡◌, refl, sym, ap, ◌∙◌}
use mathlib.Core.Bool.{cond}
use mathlib.Core.List.{List}
use Prim.Native.Nat.{ℕ, ◌+◌, ◌<◌, ◌≤◌}
use native.Mathlib.Omega.{arith}
use borrow.Author.Tests.{le-leb, lt-leb}
use lib.Dec.{leb}
use lib.IntN.{ℤ}
use lib.ListN.{length}
use Rattle.std.specs.Prelude.{Option, None, Some, unwrap_or, IsSome}
use Rattle.area.specs.declared.JobRecord.{JobRecord}
use Rattle.area.specs.declared.IndexRecord.{IndexRecord}
use Rattle.area.specs.Records.{records_of, held_in}
use Rattle.area.specs.Entry.{Entry}
use Rattle.area.proofs.PackedRuns.{held_count}
use Rattle.area.specs.Log.{Log}
use Rattle.area.specs.Encoding.{Area, area_of, entries_of, machine_of}
use Rattle.soundness.specs.Held.{state_at}
use Rattle.machine.specs.Choose as choice
use Rattle.machine.specs.Choose.{met, capped, selected, choose}
use Rattle.machine.proofs.Choices.{Chosen, meets, caps, goes, chosen, choose-facts}
use Rattle.writing.specs.Heads.{heads_of}
use Rattle.writing.specs.ValidArea.{ValidArea}
use Rattle.promotion.proofs.Refining.{room}
use Rattle.writing.proofs.Unread.{heads_are, alike_selected}
use Rattle.writing.proofs.Areas.{held_is, state_is}

module _ (job : JobRecord) (c : List ℕ) (store : List ℤ) (r : ValidArea (area_of job c store)) where
  abbrev area : Area
  area = area_of job c store

  abbrev es : List Entry
  es = entries_of area

  abbrev l : Log
  l = (machine_of area).log

  abbrev t : ℕ
  t = job.settings.threshold

  -- where the pending error is at most the threshold
  pub ended_is : job.pending ≤ t → cond (leb (job.pending + job.carried) t) met capped ≡ choose l
  unfolding machine_of
  ended_is over = step (chosen l)
    where
      step : Chosen l → cond (leb (job.pending + job.carried) t) met capped ≡ choose l
      step (meets f h) = rw (le-leb (job.pending + job.carried) t (omega (arith, h, r.sound.numbers.pending, r.sound.numbers.carried))) (sym f)
      step (caps f h g) = rw (lt-leb (job.pending + job.carried) t (omega (arith, g, r.sound.numbers.pending, r.sound.numbers.carried))) (sym f)
      step (goes f h) = absurd (omega (arith, h, over, r.sound.numbers.pending))

  -- a place that is chosen is active
  pub chosen_active : (p : ℕ) → choose l ≡ choice.place p → (p < job.held) × (state_at (records_of c) p ≡ 1)
  unfolding machine_of
  chosen_active p e =
      let a = choose-facts.place_active l p e in
      (omega (arith, a.place, held_is area r), sym (state_is area r p a.place) ∙ a.active)

  -- where it is above, an index is active, and the search finds the selected place
  module _ (above : t < job.pending) where
    chosen_is : choose l ≡ choice.place (selected es)
    unfolding machine_of
    chosen_is = choose-facts.place_if l (omega (arith, above, r.sound.numbers.pending))

    module _ (rs : List IndexRecord) (are : rs ≡ held_in c job.held) where
      selects : selected (heads_of rs) ≡ selected es
      selects = rw are (alike_selected (heads_of (held_in c job.held)) es (heads_are job c store))

      active_among : selected (heads_of rs) < length rs
      active_among = omega (arith, selects, (chosen_active (selected es) chosen_is).0, ap length are, held_count c job.held (room job c store r))

      module _ (o : Option ℕ) (e : unwrap_or o (length rs) ≡ selected (heads_of rs)) where
        some : (q : Option ℕ) → o ≡ q → IsSome q
        some None is = absurd (omega (arith, sym (ap (λ x. unwrap_or x (length rs)) is) ∙ e, active_among))
        some (Some p) is = search

        pub found : IsSome o
        found = some o refl

        pub selected_is : (p : ℕ) → o ≡ Some p → choice.place p ≡ choose l
        selected_is p is = ap choice.place (sym (ap (λ x. unwrap_or x (length rs)) is) ∙ e ∙ selects) ∙ sym chosen_is
