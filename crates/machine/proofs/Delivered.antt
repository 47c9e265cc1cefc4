-- Deliver keeps the clauses. The first wanted entry becomes active, so nothing becomes or ceases to be old, and all before it are delivered.
-- The mean's bound grows by one difference, whose size is at most 2^40 since all readings that it takes are in range.
-- Assumes nothing.
use mathlib.Core.Path.{◌≡◌, refl, ap, ◌∙◌, subst}
use mathlib.Core.Logic.{⊎_elim}
use mathlib.Core.List.{List}
use Prim.Native.Nat.{ℕ, suc, ◌*◌, ◌^◌, ◌<◌, ◌≤◌}
use native.Mathlib.Omega.{arith}
use lib.IntN.{ℤ, pos, nat_abs, ◌+ℤ◌}
use lib.ListN.{length, get_or, length-set}
use Rattle.sums.proofs.Sizes.{abs_add}
use Rattle.grid.specs.Difference.{scaled_difference}
use Rattle.grid.specs.Terms.{IsReading, InRange}
use Rattle.grid.proofs.Facts.{difference_facts}
use Rattle.area.specs.declared.Settings.{Settings}
use Rattle.area.specs.Settings.{reading_count}
use Rattle.area.specs.Entry.{Entry, delivered_of, reading_in}
use Rattle.area.specs.Log.{Machine, with_entries}
use Rattle.encoding.specs.Entries.{entry_at, EnteredOld, SoundMachine}
use Rattle.machine.specs.Log.{first_wanted, wanted_index}
use Rattle.machine.specs.Steps.{delivered, deliver_at, deliver}
use Rattle.machine.proofs.Wanted.{first_is, before_first}
use Rattle.machine.proofs.Sets.{set_here, set-each, last_set, levels_kept, different_set, has_set, old_set, set_old, reserved_set, delivered_more}
use Rattle.machine.proofs.Clauses.{SoundEntry, sound_kept, Joint, sound_at, sound_from}
use Rattle.machine.proofs.Ranges.{in_range_lem}

module _ {m : Machine} (v : SoundMachine m) (some : first_wanted m.log.entries < length m.log.entries) (rs : List ℤ) (i : ℕ)
    (full : length rs ≡ reading_count m.log.settings (wanted_index m.log.entries)) (range : (n : ℕ) → n < length rs → IsReading (get_or rs n (pos 0))) where
  abbrev g : Settings
  g = m.log.settings

  abbrev es : List Entry
  es = m.log.entries

  abbrev place : ℕ
  place = first_wanted es

  abbrev new : Entry
  new = delivered (entry_at es place) rs i

  abbrev after : List Entry
  after = deliver_at es place rs i

  is_wanted : (entry_at es place).state ≡ 0
  is_wanted = first_is es some

  after_length : length after ≡ length es
  unfolding deliver_at
  after_length = length-set es place new

  at_place : entry_at after place ≡ new
  unfolding deliver_at
  at_place = set_here es place new some

  old_after : (k : List ℕ) → EnteredOld es k → EnteredOld after k
  unfolding deliver_at delivered
  old_after = old_set es place new some refl (λ e. absurd (omega (arith, is_wanted)))

  old_before : (k : List ℕ) → EnteredOld after k → EnteredOld es k
  unfolding deliver_at delivered
  old_before k h = ⊎_elim (λ x. x) (λ x. absurd (omega (arith, x.1))) (set_old es place new some refl k h)

  new_sound : SoundEntry g (EnteredOld after) new
  unfolding delivered
  new_sound =
      let r = sound_at v place some in
      record {
        index = r.index;
        state = omega arith;
        idle = λ z. absurd (omega arith);
        empty = λ z. absurd (omega arith);
        whole = λ h. full;
        readings = λ n h q. range n (omega (arith, full));
        behind = λ a h l. old_after _ (r.behind a h l);
      }

  each_sound : (p : ℕ) → p < length after → SoundEntry g (EnteredOld after) (entry_at after p)
  unfolding deliver_at
  each_sound p h =
      set-each es place new some (SoundEntry g (EnteredOld after)) new_sound (λ q l n. sound_kept old_after (sound_at v q l)) p (omega (arith, after_length))

  pub deliver_count : length (delivered_of after) ≡ suc (length (delivered_of es))
  unfolding deliver_at delivered
  deliver_count = delivered_more es place new some is_wanted (omega arith)

  joint : (n : ℤ) → nat_abs n ≤ length (delivered_of after) * 2 ^ 40 → Joint (record { log = with_entries m.log after; mean = n })
  unfolding deliver_at delivered
  joint n h =
      record {
        settings = v.settings;
        count = (omega (arith, after_length, v.count.0), omega (arith, after_length, v.count.1));
        different = different_set es place new some refl v.different;
        first = levels_kept es place new some refl 0 ∙ v.first;
        admissible = λ k j old.
            let x = v.admissible k j (λ a ha l. old_before _ (old a ha l)) in
            (x.0, has_set es place new some refl k x.0 x.1);
        last = last_set es place new some (omega arith) (before_first es) v.wanted_last;
        within_budget = omega (arith, reserved_set es place new some refl, v.within_budget);
        mean = h;
      }

  -- whatever mean is within the bound
  pub deliver_with : (n : ℤ) → nat_abs n ≤ length (delivered_of after) * 2 ^ 40 → SoundMachine (record { log = with_entries m.log after; mean = n })
  deliver_with n h = sound_from (joint n h) each_sound

  readings_in_range : InRange (wanted_index es) (reading_in after)
  unfolding delivered
  readings_in_range =
      subst (λ (e : Entry). InRange e.levels (reading_in after)) at_place
      (in_range_lem (deliver_with (pos 0) (omega arith)) place (omega (arith, after_length)) (omega (arith, ap (λ (e : Entry). e.state) at_place)))

  pub difference_small : nat_abs (scaled_difference (wanted_index es) (reading_in after)) ≤ 2 ^ 40
  difference_small =
      let x = v.index place some in
      difference_facts.difference_size (wanted_index es) (reading_in after) x.eight x.ceilings readings_in_range

  pub deliver_entries : SoundMachine (record { log = with_entries m.log after; mean = m.mean +ℤ scaled_difference (wanted_index es) (reading_in after) })
  deliver_entries =
      deliver_with (m.mean +ℤ scaled_difference (wanted_index es) (reading_in after))
      (omega (arith, abs_add m.mean (scaled_difference (wanted_index es) (reading_in after)), v.mean, difference_small, deliver_count))

pub deliver_sound : (m : Machine) (rs : List ℤ) (i : ℕ) → SoundMachine m → first_wanted m.log.entries < length m.log.entries
    → length rs ≡ reading_count m.log.settings (wanted_index m.log.entries) → ((n : ℕ) → n < length rs → IsReading (get_or rs n (pos 0))) → SoundMachine (deliver m rs i)
unfolding deliver
deliver_sound m rs i v some full range = deliver_entries v some rs i full range
