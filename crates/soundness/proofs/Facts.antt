-- What soundness gives, proved. Assumes nothing.
use mathlib.Core.Path.{◌≡◌, sym, ap, ◌∙◌, subst}
use mathlib.Core.List.{List, Memᴰ}
use Prim.Native.Nat.{ℕ, ◌<◌, ◌≤◌}
use native.Mathlib.Omega.{arith}
use lib.IntN.{ℤ}
use lib.ListN.{length, length-take}
use lib.Seq.{get_or-take, length-take-le}
use Rattle.area.specs.declared.IndexRecord.{IndexRecord}
use Rattle.area.specs.declared.JobRecord.{JobRecord}
use Rattle.area.specs.Records.{records_of, blank}
use Rattle.area.specs.Settings.{least_store}
use Rattle.area.specs.Encoding.{Area, area_of, held_of}
use Rattle.area.proofs.Records.{length-records_of, eight_levels}
use Rattle.quadrature.specs.Readings.{record_at}
use Rattle.quadrature.specs.Ready.{Ready, AllReady}
use Rattle.quadrature.specs.Linked.{delivered_in}
use Rattle.quadrature.proofs.Delivered.{delivered_sure}
use Rattle.quadrature.proofs.Encoded.{held_ready}
use Rattle.soundness.specs.Held.{levels_at}
use Rattle.soundness.specs.Sound.{Sound}
use Rattle.soundness.specs.Facts.{LinkCheckFacts, SoundFacts}
use Rattle.soundness.proofs.Forth.{structure}
use Rattle.soundness.proofs.Back.{link_checked}
use Rattle.soundness.proofs.Tests.{reads_structure}
use Rattle.soundness.proofs.Totals.{reads_area}
use Rattle.soundness.proofs.Gives.{structure_linked, sound_ready}
use Rattle.soundness.proofs.Down.{delivered-down}

module _ (a : Area) (sound : Sound a) (room : least_store a.job.settings ≤ length a.store) where
  ready : (k : List ℕ) → Memᴰ k (delivered_in (held_of a)) → Ready a.job.settings.axes (held_of a) a.store k
  ready k m =
      let x = delivered_sure (held_of a) k m in
      sound_ready a sound room k x.place (record { place = x.inside; same = x.levels }) x.delivered

  held_count : length (held_of a) ≡ a.job.held
  held_count = length-take-le a.job.held a.run.records sound.held_lent

  ready_at : (p : ℕ) → p < a.job.held → 1 ≤ (record_at a.run.records p).state → Ready a.job.settings.axes a.run.records a.store (record_at a.run.records p).levels
  ready_at p h w =
      let e : record_at (held_of a) p ≡ record_at a.run.records p = get_or-take a.job.held a.run.records p blank h in
      held_ready a.job.held a.run.records
      (sound_ready a sound room (record_at a.run.records p).levels p
      (record { place = omega (arith, held_count); same = ap (λ (r : IndexRecord). r.levels) e })
      (subst (λ (r : IndexRecord). 1 ≤ r.state) (sym e) w))

  all_ready : AllReady a.job.settings.axes a.job.held a.run.records a.store
  all_ready = record { few = omega (arith, held_count, sound.structure.count.1); room = sound.held_lent; ready = ready_at }

-- 27 cells hold eight levels
held_eight : (j : JobRecord) (cells : List ℕ) (s : List ℤ) (p : ℕ) → p < length (held_of (area_of j cells s)) → length (levels_at (held_of (area_of j cells s)) p) ≡ 8
held_eight j cells s p h =
    let l = length-take j.held (records_of cells) in
    ap (λ (r : IndexRecord). length r.levels) (get_or-take j.held (records_of cells) p blank (omega (arith, l, h)))
    ∙ eight_levels cells p (omega (arith, l, h, length-records_of cells))

pub link_check_facts : LinkCheckFacts
link_check_facts =
    record {
      accepted = structure;
      accepts = link_checked;
      tested = λ d few rs formed. reads_structure d rs few formed;
      whole = reads_area;
      on_cells = λ j cells s. reads_area (area_of j cells s) (held_eight j cells s);
    }

pub sound_facts : SoundFacts
sound_facts =
    record {
      ready = ready;
      all_ready = all_ready;
      linked = λ a sound. structure_linked a.job.settings.axes sound.settings.axes.1 (held_of a) sound.structure;
      down = λ a sound. delivered-down a.job.settings.axes (held_of a) sound.structure;
    }
