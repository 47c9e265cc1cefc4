-- Deliveries: each wanted index, in order, joins the active ones, with its increment and its indicator.
-- The idea: the entries are delivered ones and then wanted ones. The delivered ones have the state of Fig. 1, and each delivery moves the
-- first wanted one over to them.
-- Assumes nothing.
use mathlib.Core.Path.{◌≡◌, refl, sym, ap, ap₂, ◌∙◌, subst}
use mathlib.Core.List.{List, [], ◌∷◌, ◌++◌, map}
use Prim.Native.Nat.{ℕ, zero, suc, ◌+◌, ◌<◌, ◌≤◌}
use native.Mathlib.Omega.{arith}
use lib.IntN.{ℤ, pos, ◌+ℤ◌}
use lib.ListN.{length, get_or, set, length-append, length-map}
use lib.Seq.{append_snoc, get_or-append_seam, set-append_seam}
use Rattle.grid.specs.Index.{Index}
use Rattle.grid.specs.Block.{block, block_size}
use Rattle.grid.specs.Difference.{scaled_difference}
use Rattle.grid.specs.Terms.{IsReading}
use Rattle.grid.proofs.Facts.{block-facts}
use Rattle.area.specs.Entry.{Entry, reading_in}
use Rattle.area.specs.Log.{Machine, machine_with_entries}
use Rattle.area.proofs.Readings.{reading_facts}
use Rattle.encoding.specs.Entries.{no_entry, entry_at, Has, SoundMachine}
use Rattle.machine.specs.Log.{wanted, first_wanted, wanted_index}
use Rattle.machine.specs.Steps.{delivered, deliver_at, deliver}
use Rattle.machine.proofs.Wanted.{first-only}
use Rattle.machine.proofs.Appends.{append_left, append-each}
use Rattle.machine.proofs.Facts.{step_facts}
use Rattle.published.specs.Figure.{Problem, Figure, increment, joined}
use Rattle.published.specs.Turns.{supply, supplies, ReadingValued, Simulates}
use Rattle.published.proofs.Scans.{joined_all}
use Rattle.published.proofs.Increments.{value_at, increment_is}
use Rattle.published.proofs.Joins.{entry_for, Waiting, waiting_none, more_supplied, more_agrees}

-- ---- the first wanted entry comes after the delivered ones

module _ (es : List Entry) (k : List ℕ) (ws : List Entry) (delivered-all : (p : ℕ) → p < length es → 1 ≤ (entry_at es p).state) where
  abbrev whole : List Entry
  whole = es ++ wanted k ∷ ws

  whole_length : length whole ≡ suc (length es) + length ws
  whole_length = omega (arith, length-append es (wanted k ∷ ws))

  at_seam : entry_at whole (length es) ≡ wanted k
  at_seam = get_or-append_seam es (wanted k) ws no_entry

  seam_first : first_wanted whole ≡ length es
  unfolding wanted
  seam_first =
      first-only whole (length es) (omega (arith, whole_length)) (ap (λ (e : Entry). e.state) at_seam) (λ q h.
      omega (arith, delivered-all q h, ap (λ (e : Entry). e.state) (append_left es (wanted k ∷ ws) q h)))

  seam_index : wanted_index whole ≡ k
  unfolding wanted
  seam_index = ap (λ p. (entry_at whole p).levels) seam_first ∙ ap (λ (e : Entry). e.levels) at_seam

  seam_inside : first_wanted whole < length whole
  seam_inside = omega (arith, seam_first, whole_length)

  seam_deliver : (rs : List ℤ) (i : ℕ) → deliver_at whole (first_wanted whole) rs i ≡ es ++ delivered (wanted k) rs i ∷ ws
  unfolding deliver_at
  seam_deliver rs i =
      ap (λ p. set whole p (delivered (entry_at whole p) rs i)) seam_first
      ∙ ap (λ (e : Entry). set whole (length es) (delivered e rs i)) at_seam
      ∙ set-append_seam es (wanted k) ws (delivered (wanted k) rs i)

pub all_wanted : (ks : List (List ℕ)) (i : ℕ) → i < length (map wanted ks) → (entry_at (map wanted ks) i).state ≡ 0
unfolding wanted
all_wanted [] i h = absurd (omega arith)
all_wanted (k ∷ ks) zero h = refl
all_wanted (k ∷ ks) (suc i) h = all_wanted ks i (omega arith)

module _ (P : Problem) where
  abbrev f : List ℕ → ℤ
  f = P.integrand

  -- ---- one delivery

  module _ (m : Machine) (es : List Entry) (k : List ℕ) (ks : List (List ℕ)) (s : Figure) (w : Waiting P m es (k ∷ ks) s) where
    abbrev now : List Entry
    now = m.log.entries

    abbrev ws : List Entry
    ws = map wanted ks

    abbrev more : List Entry
    more = es ++ entry_for P k ∷ []

    all_delivered : (p : ℕ) → p < length es → 1 ≤ (entry_at es p).state
    all_delivered = w.agrees.supplied.delivered

    pub some-wanted : first_wanted m.log.entries < length m.log.entries
    some-wanted = subst (λ xs. first_wanted xs < length xs) (sym w.entries) (seam_inside es k ws all_delivered)

    index_is : wanted_index now ≡ k
    index_is = ap (λ xs. wanted_index xs) w.entries ∙ seam_index es k ws all_delivered

    supply_entries : (supply P m).log.entries ≡ more ++ ws
    unfolding supply deliver delivered wanted entry_for
    supply_entries =
        ap (λ l. deliver_at now (first_wanted now) (map f (block l)) (P.indicator l)) index_is
        ∙ ap (λ xs. deliver_at xs (first_wanted xs) (map f (block k)) (P.indicator k)) w.entries
        ∙ seam_deliver es k ws all_delivered (map f (block k)) (P.indicator k)
        ∙ sym (append_snoc es (entry_for P k) ws)

    -- ---- the difference that is added

    module _ (v : SoundMachine (supply P m)) where
      sound_after : SoundMachine (machine_with_entries (supply P m) (more ++ ws))
      sound_after = subst (λ xs. SoundMachine (machine_with_entries (supply P m) xs)) supply_entries v

      given : (p : ℕ) → p < length (more ++ ws) → 1 ≤ (entry_at (more ++ ws) p).state → (entry_at (more ++ ws) p).readings ≡ map f (block (entry_at (more ++ ws) p).levels)
      given =
          append-each more ws (λ e. 1 ≤ e.state → e.readings ≡ map f (block e.levels)) (λ p h d. (more_supplied P es k w.agrees.supplied).readings p h) (λ i h d.
          absurd (omega (arith, all_wanted ks i h)))

      more_length : length more ≡ suc (length es)
      more_length = omega (arith, length-append es (entry_for P k ∷ []))

      at_new : entry_at (more ++ ws) (length es) ≡ entry_for P k
      at_new = append_left more ws (length es) (omega (arith, more_length)) ∙ get_or-append_seam es (entry_for P k) [] no_entry

      has_new : Has (more ++ ws) k (length es)
      unfolding entry_for
      has_new = record { place = omega (arith, more_length, length-append more ws); same = ap (λ (e : Entry). e.levels) at_new }

      added : scaled_difference k (reading_in (more ++ ws)) ≡ increment P k
      unfolding entry_for
      added =
          increment_is P sound_after given k (length es) has_new (omega (arith, ap (λ (e : Entry). e.state) at_new))
          (subst (Index (supply P m).log.settings.axes) has_new.same (sound_after.index (length es) has_new.place))

      supply_mean : (supply P m).mean ≡ s.result +ℤ increment P k
      unfolding supply deliver
      supply_mean = ap₂ ◌+ℤ◌ w.result (ap₂ scaled_difference index_is (ap reading_in supply_entries) ∙ added)

      pub supply_waits : Waiting P (supply P m) (es ++ entry_for P k ∷ []) ks (joined P k s)
      unfolding supply deliver joined
      supply_waits =
          record {
            posed = w.posed;
            entries = supply_entries;
            agrees = more_agrees P es k s w.agrees;
            result = supply_mean;
          }

  -- ---- all of them, where every value is a reading

  module _ (measured : ReadingValued P) where
    -- the values at a block's points are as many as its size, and readings
    values_full : (k : List ℕ) → length (map f (block k)) ≡ block_size k
    values_full k = length-map (block k) f ∙ block-facts.size k

    values_range : (k : List ℕ) (n : ℕ) → n < length (map f (block k)) → IsReading (get_or (map f (block k)) n (pos 0))
    values_range k n h = subst IsReading (sym (value_at f (block k) n (omega (arith, length-map (block k) f)))) (measured (get_or (block k) n []))

    supply_sound : (m : Machine) → SoundMachine m → first_wanted m.log.entries < length m.log.entries → SoundMachine (supply P m)
    unfolding supply
    supply_sound m v inside =
        step_facts.deliver m (map f (block (wanted_index m.log.entries))) (P.indicator (wanted_index m.log.entries)) v inside
        (values_full (wanted_index m.log.entries) ∙ sym (reading_facts.single m.log.settings (wanted_index m.log.entries)))
        (values_range (wanted_index m.log.entries))

    pub supplies-join : (ks : List (List ℕ)) (m : Machine) (es : List Entry) (s : Figure) → SoundMachine m → Waiting P m es ks s
        → SoundMachine (supplies P (length ks) m) × Simulates P (supplies P (length ks) m) (joined_all P ks s)
    unfolding supplies joined_all
    supplies-join [] m es s v w = (v, waiting_none P m es s w)
    supplies-join (k ∷ ks) m es s v w =
        let sound : SoundMachine (supply P m) = supply_sound m v (some-wanted m es k ks s w) in
        supplies-join ks (supply P m) (es ++ entry_for P k ∷ []) (joined P k s) sound (supply_waits m es k ks s w sound)
