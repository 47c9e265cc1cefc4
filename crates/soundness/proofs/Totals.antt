-- The whole test is true exactly if the area is sound and lies in storage that is long enough.
-- The idea: each remaining clause reads as its test; a wanted place followed by a wanted one makes all later ones wanted, and the
-- last block within the budget makes all within it.
-- Assumes nothing.
use mathlib.Core.Path.{◌≡◌, refl, sym, ap, ◌∙◌, subst}
use mathlib.Core.Logic.{◌⊎◌, inl, inr}
use mathlib.Core.Bool.{◌&&◌}
use mathlib.Core.List.{List}
use Prim.Native.Nat.{ℕ, zero, suc, ◌+◌, ◌*◌, ◌-◌, ◌^◌, ◌<◌, ◌≤◌}
use native.Mathlib.Decide.{ℕ_discrete}
use native.Mathlib.Numerals.{unary_clauses}
use native.Mathlib.Omega.{arith}
use borrow.Author.Tests.{le-leb}
use lib.IntN.{ℤ, pos, nat_abs}
use lib.ListN.{length, get_or}
use lib.Seq.{length-take-le}
use Rattle.sums.specs.Sums.{nat_sum_to}
use Rattle.grid.specs.Terms.{IsReading}
use Rattle.area.specs.declared.IndexRecord.{IndexRecord}
use Rattle.area.specs.declared.JobRecord.{JobRecord}
use Rattle.area.specs.declared.Settings.{Settings}
use Rattle.area.specs.Settings.{SettingsFit, readings_for, least_store}
use Rattle.area.proofs.Readings.{reading_facts}
use Rattle.area.specs.Encoding.{Area, held_of, entries_of}
use Rattle.quadrature.specs.Readings.{record_at}
use Rattle.soundness.specs.Held.{levels_at, state_at, size_at, count_at}
use Rattle.soundness.specs.Sound.{Structure, NumbersSound, Sound, LongEnough, Exactly}
use Rattle.soundness.specs.Test.{places_test, all_complete_test, link_check_test}
use Rattle.soundness.specs.Totals.{wanted_test, all_wanted_test, reading_test, block_test, blocks_test, pending_in, carried_in, delivered_count, job_test, numbers_test, held_test, area_test}
use Rattle.soundness.proofs.Exactly.{reads_as, reads_eq, reads_lt, reads_le, reads_and, reads_then, reads_or, reads_if, reads_all_from, reads_all}
use Rattle.soundness.proofs.Settings.{reads_settings}
use Rattle.soundness.proofs.Tests.{reads_structure}
use Rattle.soundness.proofs.Sizes.{reserved_sum, pending_sum, carried_sum, delivered_sum, count_sum, count_below, count_same}

module _ (rs : List IndexRecord) where
  abbrev WantedHere : ℕ → Type 0
  WantedHere p = state_at rs p ≡ 0 → ((record_at rs p).indicator ≡ 0) × (p + 1 < length rs → state_at rs (p + 1) ≡ 0)

  reads_wanted : (p : ℕ) → Exactly (wanted_test rs p) (WantedHere p)
  unfolding wanted_test
  reads_wanted p =
      reads_if _ _ (reads_eq (state_at rs p) 0)
      (reads_and _ _ (reads_eq (record_at rs p).indicator 0) (reads_if _ _ (reads_lt (p + 1) (length rs)) (reads_eq (state_at rs (p + 1)) 0)))

  pub record Wanted : Type 0 where
    pub last : (p q : ℕ) → p ≤ q → q < length rs → state_at rs p ≡ 0 → state_at rs q ≡ 0
    pub idle : (p : ℕ) → p < length rs → state_at rs p ≡ 0 → (record_at rs p).indicator ≡ 0

  all_after : ((p : ℕ) → p < length rs → WantedHere p) → (p n : ℕ) → p + n < length rs → state_at rs p ≡ 0 → state_at rs (p + n) ≡ 0
  all_after w p zero h e = simp unary_clauses e
  all_after w p (suc n) h e = subst (λ x. state_at rs x ≡ 0) (omega arith) ((w (p + n) (omega arith) (all_after w p n (omega arith) e)).1 (omega arith))

  pub reads_wanteds : Exactly (all_wanted_test rs) Wanted
  unfolding all_wanted_test
  reads_wanteds =
      reads_as
      (λ w. record {
        last = λ p q l h e. subst (λ x. state_at rs x ≡ 0) (omega arith) (all_after w p (q - p) (omega arith) e);
        idle = λ p h e. (w p h e).0;
      })
      (λ w p h e. (w.idle p h e, λ l. w.last p (p + 1) (omega arith) l e))
      (reads_all (wanted_test rs) WantedHere (length rs) (λ p h. reads_wanted p))

  module _ (g : Settings) (s : List ℤ) where
    pub record Block (p : ℕ) : Type 0 where
      pub begins : (record_at rs p).first ≡ nat_sum_to p (count_at g rs)
      pub ends : nat_sum_to p (count_at g rs) + count_at g rs p ≤ least_store g
      pub readings : (n : ℕ) → 1 ≤ state_at rs p → n < count_at g rs p → IsReading (get_or s ((record_at rs p).first + n) (pos 0))

    reads_reading : (i : ℕ) → Exactly (reading_test s i) (IsReading (get_or s i (pos 0)))
    unfolding reading_test
    reads_reading i = reads_le (nat_abs (get_or s i (pos 0))) 1048576

    abbrev Read : ℕ → Type 0
    Read p = (j : ℕ) → nat_sum_to p (count_at g rs) ≤ j → j < nat_sum_to p (count_at g rs) + count_at g rs p → IsReading (get_or s j (pos 0))

    abbrev Parts : ℕ → Type 0
    Parts p = ((record_at rs p).first ≡ nat_sum_to p (count_at g rs)) × ((nat_sum_to p (count_at g rs) + count_at g rs p ≤ least_store g) × ((state_at rs p ≡ 0) ⊎ Read p))

    reads_block : (p : ℕ) → Exactly (block_test g rs s p) (Block p)
    unfolding block_test
    reads_block p =
        reads_as there here
        (reads_and _ _ (reads_eq (record_at rs p).first (nat_sum_to p (count_at g rs)))
        (reads_and _ _ (reads_le (nat_sum_to p (count_at g rs) + count_at g rs p) (least_store g))
        (reads_or _ _ (reads_eq (state_at rs p) 0)
        (reads_all_from (reading_test s) (λ i. IsReading (get_or s i (pos 0))) (count_at g rs p) (nat_sum_to p (count_at g rs)) (λ j h. reads_reading j)))))
      where
        there : Parts p → Block p
        there (begins, (ends, read)) = record { begins = begins; ends = ends; readings = λ n d h. step n d h read }
          where
            step : (n : ℕ) → 1 ≤ state_at rs p → n < count_at g rs p → (state_at rs p ≡ 0) ⊎ Read p → IsReading (get_or s ((record_at rs p).first + n) (pos 0))
            step n d h (inl e) = absurd (omega arith)
            step n d h (inr f) = f ((record_at rs p).first + n) (omega (arith, begins)) (omega (arith, begins))

        here : Block p → Parts p
        here y = (y.begins, (y.ends, step (ℕ_discrete (state_at rs p) 0)))
          where
            step : Dec (state_at rs p ≡ 0) → (state_at rs p ≡ 0) ⊎ Read p
            step (yes e) = inl e
            step (no e) = inr (λ j l h.
                subst (λ i. IsReading (get_or s i (pos 0))) (omega (arith, y.begins)) (y.readings (j - nat_sum_to p (count_at g rs)) (omega arith) (omega arith)))

    -- all blocks, and how many readings they come to
    pub record Blocks (r : ℕ) : Type 0 where
      pub each : (p : ℕ) → p < length rs → Block p
      pub together : nat_sum_to (length rs) (count_at g rs) ≡ readings_for g r

    pub reads_blocks : (r : ℕ) → Exactly (blocks_test g r rs s) (Blocks r)
    unfolding blocks_test
    reads_blocks r =
        reads_as (λ (each, together). record { each = each; together = together }) (λ b. (b.each, b.together))
        (reads_and _ _ (reads_all (block_test g rs s) Block (length rs) (λ p h. reads_block p)) (reads_eq (nat_sum_to (length rs) (count_at g rs)) (readings_for g r)))

-- ---- the job record
pub record Job (j : JobRecord) (records readings : ℕ) : Type 0 where
  pub long : 512 ≤ records
  pub room : least_store j.settings ≤ readings
  pub settings : SettingsFit j.settings
  pub held : (1 ≤ j.held) × (j.held ≤ 512)

pub reads_job : (j : JobRecord) (records readings : ℕ) → Exactly (job_test j records readings) (Job j records readings)
unfolding job_test
reads_job j records readings =
    reads_as
    (λ (long, (room, (settings, held))). record { long = long; room = room; settings = settings; held = held })
    (λ y. (y.long, (y.room, (y.settings, y.held))))
    (reads_and _ _ (reads_le 512 records)
    (reads_and _ _ (reads_le (least_store j.settings) readings)
    (reads_and _ _ (reads_settings j.settings) (reads_and _ _ (reads_le 1 j.held) (reads_le j.held 512)))))

-- where the held are as many as they may be, the two passes alone read as the structure
module _ (d : ℕ) (few : d ≤ 8) (rs : List IndexRecord) (formed : (p : ℕ) → p < length rs → length (levels_at rs p) ≡ 8) where
  passes_alone : (1 ≤ length rs) × (length rs ≤ 512) → link_check_test d rs ≡ (places_test d rs && all_complete_test d rs)
  unfolding link_check_test
  passes_alone z = rw (le-leb 1 (length rs) z.0, le-leb (length rs) 512 z.1)

  reads_passes : (1 ≤ length rs) × (length rs ≤ 512) → Exactly (places_test d rs && all_complete_test d rs) (Structure d rs)
  reads_passes z = subst (λ t. Exactly t (Structure d rs)) (passes_alone z) (reads_structure d rs few formed)

module _ (a : Area) (formed : (p : ℕ) → p < length (held_of a) → length (levels_at (held_of a) p) ≡ 8) where
  abbrev rs : List IndexRecord
  rs = held_of a

  abbrev g : Settings
  g = a.job.settings

  abbrev JobFits : Type 0
  JobFits = Job a.job (length a.run.records) (length a.store)

  record HeldFits : Type 0 where
    structure : Structure g.axes rs
    wanted : Wanted rs
    blocks : Blocks rs g a.store a.job.reserved
    pending : pending_in rs ≡ a.job.pending
    carried : carried_in g.axes rs ≡ a.job.carried
    mean : nat_abs a.job.mean ≤ delivered_count rs * 2 ^ 40

  held_count : JobFits → length rs ≡ a.job.held
  held_count f = length-take-le a.job.held a.run.records (omega (arith, f.long, f.held.1))

  reads_held : JobFits → Exactly (held_test a.job rs a.store) HeldFits
  unfolding held_test numbers_test
  reads_held f =
      reads_as
      (λ (structure, (wanted, (blocks, (pending, (carried, mean))))).
      record { structure = structure; wanted = wanted; blocks = blocks; pending = pending; carried = carried; mean = mean })
      (λ h. (h.structure, (h.wanted, (h.blocks, (h.pending, (h.carried, h.mean))))))
      (reads_and _ _ (reads_passes g.axes f.settings.axes.1 rs formed (omega (arith, held_count f, f.held.0), omega (arith, held_count f, f.held.1)))
      (reads_and _ _ (reads_wanteds rs)
      (reads_and _ _ (reads_blocks rs g a.store a.job.reserved)
      (reads_and _ _ (reads_eq (pending_in rs) a.job.pending)
      (reads_and _ _ (reads_eq (carried_in g.axes rs) a.job.carried) (reads_le (nat_abs a.job.mean) (delivered_count rs * 2 ^ 40)))))))

  -- the last block ends within the shortest store, so all readings do
  last_within : (n : ℕ) → n ≡ length rs → 1 ≤ n → ((p : ℕ) → p < length rs → Block rs g a.store p) → nat_sum_to n (count_at g rs) ≤ least_store g
  unfolding nat_sum_to
  last_within zero e h blocks = absurd (omega arith)
  last_within (suc n) e h blocks = (blocks n (omega arith)).ends

  module _ (f : JobFits) (h : HeldFits) where
    points : nat_sum_to (length rs) (size_at rs) ≡ a.job.reserved
    points = count_same g f.settings (nat_sum_to (length rs) (size_at rs)) a.job.reserved (sym (count_sum g rs (length rs)) ∙ h.blocks.together)

    all_within : a.job.reserved ≤ g.budget
    all_within =
        reading_facts.fewer g a.job.reserved g.budget f.settings
        (omega (arith, h.blocks.together, last_within (length rs) refl (omega (arith, held_count f, f.held.0)) h.blocks.each, reading_facts.least g))

    numbers : NumbersSound a
    unfolding entries_of
    numbers =
        record {
          reserved = sym points ∙ sym (reserved_sum g a.store rs);
          within_budget = all_within;
          pending = sym h.pending ∙ sym (pending_sum g a.store rs);
          carried = sym h.carried ∙ sym (carried_sum g.axes g a.store rs);
          mean = subst (λ n. nat_abs a.job.mean ≤ n * 2 ^ 40) (sym (delivered_sum g a.store rs)) h.mean;
        }

    long_enough : LongEnough a
    long_enough = record { records = f.long; store = f.room }

    sound : Sound a
    sound =
        record {
          held_lent = omega (arith, f.long, f.held.1);
          settings = f.settings;
          structure = h.structure;
          wanted_last = h.wanted.last;
          wanted_indicator_zero = h.wanted.idle;
          first_readings = λ p l. (h.blocks.each p l).begins;
          readings = λ p n l d i. (omega (arith, (h.blocks.each p l).begins, (h.blocks.each p l).ends, f.room), (h.blocks.each p l).readings n d i);
          numbers = numbers;
        }

  module _ (l : LongEnough a) (s : Sound a) where
    count : length rs ≡ a.job.held
    count = length-take-le a.job.held a.run.records s.held_lent

    sum : nat_sum_to (length rs) (size_at rs) ≡ a.job.reserved
    unfolding entries_of
    sum = sym (reserved_sum g a.store rs) ∙ sym s.numbers.reserved

    job_fits : JobFits
    job_fits =
        record {
          long = l.records;
          room = l.store;
          settings = s.settings;
          held = (omega (arith, count, s.structure.count.0), omega (arith, count, s.structure.count.1));
        }

    block : (p : ℕ) → p < length rs → Block rs g a.store p
    block p h =
        record {
          begins = s.first_readings p h;
          ends = count_below g rs p h (omega (arith, sum, s.numbers.within_budget));
          readings = λ n d i. (s.readings p n h d i).1;
        }

    held_fits : HeldFits
    unfolding entries_of
    held_fits =
        record {
          structure = s.structure;
          wanted = record { last = s.wanted_last; idle = s.wanted_indicator_zero };
          blocks = record { each = block; together = count_sum g rs (length rs) ∙ ap (readings_for g) sum };
          pending = sym (pending_sum g a.store rs) ∙ sym s.numbers.pending;
          carried = sym (carried_sum g.axes g a.store rs) ∙ sym s.numbers.carried;
          mean = subst (λ n. nat_abs a.job.mean ≤ n * 2 ^ 40) (delivered_sum g a.store rs) s.numbers.mean;
        }

  pub reads_area : Exactly (area_test a) (LongEnough a × Sound a)
  unfolding area_test
  reads_area =
      reads_as (λ (f, h). (long_enough f h, sound f h)) (λ (l, s). (job_fits l s, held_fits l s))
      (reads_then _ _ (reads_job a.job (length a.run.records) (length a.store)) reads_held)
