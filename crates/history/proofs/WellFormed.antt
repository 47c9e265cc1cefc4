-- What a call leaves of records that are well-formed: as many, well-formed, with the same cells past them.
-- The idea: an accepted call leaves a valid area, whose held records are well-formed, and does not touch the others; a refused one leaves all.
-- Assumes nothing.
use mathlib.Core.Path.{◌≡◌, refl, ap, sym, ◌∙◌}
use mathlib.Core.Logic.{inl, inr}
use mathlib.Core.List.{List}
use Prim.Native.Nat.{◌+◌, ◌-◌, ◌<◌, ◌≤◌}
use native.Mathlib.Omega.{arith}
use lib.ListN.{get_or}
use lib.Seq.{get_or-take, get_or-drop, length-take-le}
use Rattle.area.specs.declared.IndexRecord.{IndexRecord}
use Rattle.area.specs.Records.{blank}
use Rattle.area.specs.Encoding.{Area, held_of, machine_of, written}
use Rattle.quadrature.specs.Readings.{record_at}
use Rattle.encoding.specs.Encodes.{WellFormed}
use Rattle.machine.specs.Causes.{Lengths}
use Rattle.writing.specs.ValidArea.{ValidArea}
use Rattle.calls.specs.Replies.{lengths_of}
use Rattle.calls.specs.Table.{Call, Effect, unchanged, becomes, row, effect_of}
use Rattle.calls.specs.Calls.{CallResult, area_after, call_on}
use Rattle.calls.specs.Facts.{PastUnchanged}
use Rattle.calls.proofs.CauseCases.{call_ways}
use Rattle.calls.proofs.Next.{Allowed, allowed_there, next_valid}
use Rattle.calls.proofs.Written.{written_past, written_lengths}
use Rattle.std.proofs.lemmas.Bool.{cases_lt}
use Rattle.records.proofs.WellFormed.{FormedAt, at_same, well_formed_take}

-- ---- what a call leaves

pub record Leaves (a b : Area) : Type 0 where
  pub well_formed : WellFormed b.run.records
  pub rest : b.run.rest ≡ a.run.rest
  pub lengths : lengths_of b ≡ lengths_of a

-- the held records of a valid area, and the others as they were
valid_well_formed : (a b : Area) → WellFormed a.run.records → ValidArea b → PastUnchanged a b → lengths_of b ≡ lengths_of a → WellFormed b.run.records
valid_well_formed a b f s past e p h = elim (cases_lt p b.job.held) [ inl l ↦ front l | inr l ↦ behind l ]
  where
    front : p < b.job.held → FormedAt b.run.records p
    front l =
        at_same (record_at b.run.records p) (record_at (held_of b) p) (sym (get_or-take b.job.held b.run.records p blank l))
        (s.well_formed p (omega (arith, l, length-take-le b.job.held b.run.records s.sound.held_lent)))

    behind : b.job.held ≤ p → FormedAt b.run.records p
    behind l =
        let n = b.job.held in
        let k : n + (p - n) ≡ p = omega (arith, l) in
        at_same (record_at b.run.records p) (record_at a.run.records p)
        (ap (λ i. get_or b.run.records i blank) (sym k)
        ∙ sym (get_or-drop n b.run.records (p - n) blank)
        ∙ ap (λ (rs : List IndexRecord). get_or rs (p - n) blank) past.records
        ∙ get_or-drop n a.run.records (p - n) blank
        ∙ ap (λ i. get_or a.run.records i blank) k)
        (f p (omega (arith, h, ap (λ (z : Lengths). z.records) e)))

module _ (a : Area) (f : WellFormed a.run.records) where
  itself : Leaves a a
  itself = record { well_formed = f; rest = refl; lengths = refl }

  held_well_formed : WellFormed (held_of a)
  held_well_formed = well_formed_take a.job.held a.run.records f

  -- an accepted call writes a state, or nothing
  pub call_leaves : (c : Call) → Leaves a (call_on a c).area
  unfolding area_after
  call_leaves c =
      call_ways a c (λ (x : CallResult). Leaves a x.area) (λ none. after (effect_of (machine_of a) (row c)) (allowed_there a held_well_formed c none)) (λ some. itself)
    where
      after : (e : Effect) → Allowed (lengths_of a) e → Leaves a (area_after a e)
      after unchanged x = itself
      after (becomes n) x =
          let past = written_past a n in
          let same = written_lengths a n x.sound x.records x.readings in
          record { well_formed = valid_well_formed a (written a n) f (next_valid a n x) past same; rest = past.rest; lengths = same }
