-- Refining a place of a valid area: what the scans may ask, what they find, and what the change comes to.
-- The idea: the scans see entries without readings, and no search looks at those; the marked axes are the admitted ones, so the counts
-- decide as the refined entries do, and the records written are theirs.
-- Assumes nothing.
use mathlib.Core.Path.{◌≡◌, sym, ap, ap₂, ◌∙◌, subst}
use mathlib.Core.Bool.{true, false, cond}
use mathlib.Core.List.{List}
use Prim.Native.Nat.{ℕ, ◌+◌, ◌*◌, ◌-◌, ◌^◌, ◌<◌, ◌≤◌}
use native.Mathlib.Omega.{arith}
use borrow.Author.Tests.{le-leb, lt-leb}
use lib.IntN.{ℤ}
use Rattle.std.specs.Prelude.{Option}
use lib.ListN.{length, get_or, set}
use Rattle.grid.specs.Index.{level, Within, Index, at_ceiling}
use Rattle.grid.proofs.Ceilings.{ceiling_facts}
use Rattle.area.specs.declared.JobRecord.{JobRecord}
use Rattle.area.specs.declared.IndexRecord.{IndexRecord}
use Rattle.area.specs.declared.Settings.{Settings}
use Rattle.area.specs.Settings.{readings_for}
use Rattle.area.proofs.Readings.{reading_facts}
use Rattle.area.specs.Records.{Run, records_of, run_of, stored, held_in}
use Rattle.area.specs.Entry.{Entry, reserved_by}
use Rattle.area.specs.Log.{Machine, machine_with_entries}
use Rattle.area.specs.Packed.{PackedWords}
use Rattle.area.specs.Encoding.{Area, area_of, entries_of, machine_of, written}
use Rattle.area.proofs.Records.{length-records_of, indicators_small}
use Rattle.quadrature.specs.Readings.{record_at}
use Rattle.quadrature.proofs.Held.{held_length, held_record}
use Rattle.soundness.specs.Held.{levels_at, state_at}
use Rattle.machine.specs.Log.{first_wanted}
use Rattle.machine.specs.Promote.{make_old, admitted_axes, refine, fits, spent, promoted, promote_within}
use Rattle.machine.specs.Areas.{changed_by, refine_on}
use Rattle.encoding.specs.Entries.{SoundMachine}
use Rattle.encoding.proofs.Facts.{range_facts}
use Rattle.machine.proofs.Facts.{step_facts}
use Rattle.writing.specs.Changes.{with_state, appended_all, sizes_of}
use Rattle.writing.specs.Heads.{heads_of}
use Rattle.writing.specs.ValidArea.{ValidArea}
use Rattle.writing.proofs.Unread.{heads_are, alike_make_old, alike_axes}
use Rattle.writing.proofs.Areas.{held_is, state_is}
use Rattle.writing.proofs.Refine.{refined_held, refined_reserved, indicator_within}
use Rattle.writing.proofs.Facts.{write_facts}
use Rattle.writing.proofs.After.{machine_sound, written_valid}
use Rattle.promotion.specs.Marks.{Searchable, Scannable, Neighbours}
use Rattle.promotion.specs.Outcomes.{outcome_of, promotion_of}
use Rattle.promotion.specs.declared.Outcome.TheVariants.{Spent, Promoted}

-- ---- a valid area

module _ (job : JobRecord) (c : List ℕ) (store : List ℤ) (r : ValidArea (area_of job c store)) where
  pub room : job.held * 27 ≤ length c
  room = omega (arith, r.sound.held_lent, length-records_of c)

  long : 512 * 27 ≤ length c
  long = omega (arith, r.lent.records, length-records_of c)

  few_axes : job.settings.axes ≤ 8
  few_axes = r.sound.settings.axes.1

  few_held : length (held_in c job.held) ≤ 512
  unfolding held_in
  few_held = r.sound.structure.count.1

  searchable : Searchable (held_in c job.held)
  unfolding held_in
  searchable =
      let s = r.sound.structure in
      record {
        few = s.count.1;
        different = s.different;
        eight = λ p h. (s.index p h).eight;
        low = λ p a h l. (s.index p h).ceilings.high a (omega (arith, (s.index p h).eight));
      }

-- ---- refining an active place, where nothing is wanted, with a limit on the reserved

pub record Refinable (job : JobRecord) (c : List ℕ) (store : List ℤ) (p limit : ℕ) : Type 0 where
  pub valid : ValidArea (area_of job c store)
  pub idle : length (entries_of (area_of job c store)) ≤ first_wanted (entries_of (area_of job c store))
  pub place : p < job.held
  pub active : state_at (records_of c) p ≡ 1
  pub limited : limit ≤ job.settings.budget

pub refinable : {job : JobRecord} {c : List ℕ} {store : List ℤ} {p limit : ℕ}
    → ValidArea (area_of job c store) × (length (entries_of (area_of job c store)) ≤ first_wanted (entries_of (area_of job c store)))
    → (p < job.held) × (state_at (records_of c) p ≡ 1) × (limit ≤ job.settings.budget)
    → Refinable job c store p limit
refinable r h = record { valid = r.0; idle = r.1; place = h.0; active = h.1; limited = h.2 }

-- the held records, its levels as they are read there, and the forward neighbours that the scan finds
pub record Scanned (job : JobRecord) (c : List ℕ) (p : ℕ) (held : List IndexRecord) (levels : List ℕ) (n : Neighbours) : Type 0 where
  pub held_are : held ≡ held_in c job.held
  pub levels_are : levels ≡ levels_at held p
  pub neighbours_are : n ≡ record { index = levels; along = admitted_axes job.settings.axes (make_old (heads_of held) p) levels }

-- how many they are, and the sizes of their blocks together
pub record Counted (n : Neighbours) (count sizes : ℕ) : Type 0 where
  pub count_is : count ≡ length n.along
  pub sizes_are : sizes ≡ sizes_of n.index n.along

pub scanned : {job : JobRecord} {c : List ℕ} {p : ℕ} {held : List IndexRecord} {levels : List ℕ} {n : Neighbours} → held ≡ held_in c job.held → levels ≡ levels_at held p
    → n ≡ record { index = levels; along = admitted_axes job.settings.axes (make_old (heads_of held) p) levels } → Scanned job c p held levels n
scanned h l n = record { held_are = h; levels_are = l; neighbours_are = n }

pub counted : {n : Neighbours} {count sizes : ℕ} → count ≡ length n.along → sizes ≡ sizes_of n.index n.along → Counted n count sizes
counted c s = record { count_is = c; sizes_are = s }

-- the cells after the place has its new state, and after the neighbours are appended; and the carried error then
pub record Changed (job : JobRecord) (c : List ℕ) (p : ℕ) (held : List IndexRecord) (levels : List ℕ) (n : Neighbours) (indicator first carried : ℕ) (c₁ c₂ : List ℕ) : Type 0 where
  pub first_is : first ≡ readings_for job.settings job.reserved
  pub indicator_is : indicator ≡ (record_at held p).indicator
  pub with_state_is : run_of c₁ ≡ stored (run_of c) p (with_state (record_at (records_of c) p) 2 indicator)
  pub carried_is : carried ≡ job.carried + cond (at_ceiling 8 levels) indicator 0
  pub appended_is : run_of c₂ ≡ record { records = appended_all job.settings (records_of c₁) job.held first n.index n.along; rest = (run_of c₁).rest }

pub changed : {job : JobRecord} {c : List ℕ} {p : ℕ} {held : List IndexRecord} {levels : List ℕ} {n : Neighbours} {indicator first carried : ℕ} {c₁ c₂ : List ℕ}
    → first ≡ readings_for job.settings job.reserved → indicator ≡ (record_at held p).indicator
    → run_of c₁ ≡ stored (run_of c) p (with_state (record_at (records_of c) p) 2 indicator)
    → carried ≡ job.carried + cond (at_ceiling 8 levels) indicator 0
    → run_of c₂ ≡ record { records = appended_all job.settings (records_of c₁) job.held first n.index n.along; rest = (run_of c₁).rest }
    → Changed job c p held levels n indicator first carried c₁ c₂
changed f i w c a = record { first_is = f; indicator_is = i; with_state_is = w; carried_is = c; appended_is = a }

module _ {job : JobRecord} {c : List ℕ} {store : List ℤ} {p limit : ℕ} (t : Refinable job c store p limit) where
  abbrev area : Area
  area = area_of job c store

  abbrev es : List Entry
  es = entries_of area

  abbrev k : List ℕ
  k = levels_at (records_of c) p

  abbrev refined : List Entry
  refined = refine job.settings.axes es p

  -- the axes along which it admits
  abbrev axes : List ℕ
  axes = admitted_axes job.settings.axes (make_old es p) k

  -- the state after it
  abbrev after : Machine
  after = machine_with_entries (machine_of area) refined

  -- ---- what the scans ask

  pub place_inside : p * 27 + 27 ≤ length c
  place_inside = omega (arith, room job c store t.valid, t.place)

  -- the place holds an index of the job
  place_index : Index job.settings.axes k
  unfolding held_in
  place_index =
      subst (Index job.settings.axes) (ap (λ (x : IndexRecord). x.levels) (held_record c job.held (room job c store t.valid) p t.place))
      (t.valid.sound.structure.index p (omega (arith, t.place, held_length c job.held (room job c store t.valid))))

  module _ {held : List IndexRecord} (h : held ≡ held_in c job.held) where
    pub pack_asks : length held ≤ 512
    pack_asks = omega (arith, ap length h, few_held job c store t.valid)

    pub place_held : p < length held
    place_held = omega (arith, ap length h, held_length c job.held (room job c store t.valid), t.place)

    -- among the held it is as among all records
    record_there : record_at held p ≡ record_at (records_of c) p
    record_there = ap (λ rs. record_at rs p) h ∙ held_record c job.held (room job c store t.valid) p t.place

    pub scannable : {words : Option (List ℕ)} → PackedWords words held → Scannable held p words
    scannable w = record { inside = place_held; searchable = subst Searchable (sym h) (searchable job c store t.valid); packed = w }

    module _ {levels : List ℕ} (e : levels ≡ levels_at held p) where
      levels_there : levels ≡ k
      levels_there = e ∙ ap (λ (x : IndexRecord). x.levels) record_there

      pub admitted_asks : (job.settings.axes ≤ 8) × ((a : ℕ) → a < 8 → level levels a ≤ 8)
      admitted_asks = (
        few_axes job c store t.valid,
        λ a l. subst (λ x. level x a ≤ 8) (sym levels_there) (place_index.ceilings.high a (omega (arith, place_index.eight))),
      )

      -- its indicator joins a carried error that has room for it
      pub carried_asks : ((n : ℕ) → get_or c n 0 < 2 ^ 32) → Within levels × (job.carried < 2 ^ 41)
      carried_asks words =
          (subst Within (sym levels_there) place_index.ceilings, omega (arith, range_facts.errors area t.valid.sound (indicators_small c job.held words)))

    -- the indicator is part of the pending error
    pub indicator_pending : (i : ℕ) → i ≡ (record_at held p).indicator → i ≤ job.pending
    indicator_pending i e = omega (arith, ap (λ (x : IndexRecord). x.indicator) record_there, indicator_within area t.valid p t.place t.active)

  -- ---- the answers

  spent_answer : fits limit refined ≡ false → refine_on limit area p ≡ record { outcome = spent; area = area }
  unfolding refine_on promote_within changed_by machine_of
  spent_answer e = rw e

  promoted_answer : fits limit refined ≡ true → refine_on limit area p ≡ record { outcome = promoted; area = written area after }
  unfolding refine_on promote_within changed_by machine_of
  promoted_answer e = rw e

  after_sound : fits job.settings.budget refined ≡ true → SoundMachine after
  unfolding machine_of
  after_sound e =
      step_facts.refine (machine_of area) p (machine_sound area t.valid) (record { place = inside; active = state_is area t.valid p inside ∙ t.active }) e
    where
      inside : p < length es
      inside = omega (arith, held_is area t.valid, t.place)

  -- ---- what the scans find

  module _ {held : List IndexRecord} {levels : List ℕ} {n : Neighbours} (u : Scanned job c p held levels n) where
    levels_are : levels ≡ k
    levels_are = levels_there u.held_are u.levels_are

    neighbours : n ≡ record { index = k; along = axes }
    neighbours =
        u.neighbours_are
        ∙ (λ i. record { index = levels_are i; along = admitted_axes job.settings.axes (make_old (heads_of (u.held_are i)) p) (levels_are i) })
        ∙ ap (λ a. record { index = k; along = a }) (alike_axes (make_old heads p) (make_old es p) (alike_make_old heads es (heads_are job c store) p) job.settings.axes k)
      where
        heads : List Entry
        heads = heads_of (held_in c job.held)

    module _ {count sizes : ℕ} (v : Counted n count sizes) where
      count_admitted : count ≡ length axes
      count_admitted = v.count_is ∙ ap (λ (m : Neighbours). length m.along) neighbours

      sizes_admitted : sizes ≡ sizes_of k axes
      sizes_admitted = v.sizes_are ∙ ap (λ (m : Neighbours). sizes_of m.index m.along) neighbours

      held_refined : length refined ≡ job.held + count
      held_refined = refined_held area t.valid p t.place t.active ∙ ap (λ n. job.held + n) (sym count_admitted)

      reserved_refined : reserved_by refined ≡ job.reserved + sizes
      reserved_refined = refined_reserved area t.valid p t.place t.active ∙ ap (λ n. job.reserved + n) (sym sizes_admitted)

      -- ---- spent

      pub too_many : 512 < job.held + count → promotion_of Spent job c store ≡ refine_on limit area p
      unfolding fits outcome_of
      too_many l = sym (spent_answer (rw (lt-leb (length refined) 512 (omega (arith, held_refined)))))

      pub too_large : job.held + count ≤ 512 → limit < job.reserved + sizes → promotion_of Spent job c store ≡ refine_on limit area p
      unfolding fits outcome_of
      too_large f l =
          sym
          (spent_answer
          (rw (le-leb (length refined) 512 (omega (arith, held_refined)), lt-leb (reserved_by refined) limit (omega (arith, reserved_refined)))))

      -- ---- promoted

      pub append_asks : (cells first : ℕ) → cells ≡ length c → first ≡ readings_for job.settings job.reserved → job.held + count ≤ 512 → job.reserved + sizes ≤ limit
          → ((job.held + length n.along) * 27 ≤ cells) × (job.held + length n.along ≤ 512) × (first + readings_for job.settings (sizes_of n.index n.along) ≤ 8192)
      append_asks cells first e f few within = (
        omega (arith, v.count_is, long job c store t.valid),
        omega (arith, v.count_is),
        omega (arith, f, ap (readings_for g) (sym v.sizes_are), reading_facts.sum g job.reserved sizes, most, reading_facts.least g, reading_facts.most g t.valid.sound.settings),
      )
        where
          g : Settings
          g = job.settings

          most : readings_for g (job.reserved + sizes) ≤ readings_for g g.budget
          most = reading_facts.more g (job.reserved + sizes) g.budget (omega (arith, within, t.limited))

      module _ (few : job.held + count ≤ 512) (within : job.reserved + sizes ≤ limit) {indicator first carried : ℕ} {c₁ c₂ : List ℕ} (w : Changed job c p held levels n indicator first carried c₁ c₂) where
        abbrev job_after : JobRecord
        job_after =
            record {
              settings = job.settings;
              held = job.held + count;
              reserved = job.reserved + sizes;
              pending = job.pending - indicator;
              carried = carried;
              mean = job.mean;
            }

        -- they fit the limit, and so the budget
        fit_within : (b : ℕ) → limit ≤ b → fits b refined ≡ true
        unfolding fits
        fit_within b h = rw (le-leb (length refined) 512 (omega (arith, held_refined)), le-leb (reserved_by refined) b (omega (arith, reserved_refined, within)))

        fit : fits job.settings.budget refined ≡ true
        fit = fit_within job.settings.budget t.limited

        indicator_is : indicator ≡ (record_at (records_of c) p).indicator
        indicator_is = w.indicator_is ∙ ap (λ (x : IndexRecord). x.indicator) (record_there u.held_are)

        run_is : run_of c₂ ≡ record {
          records = appended_all job.settings (set (records_of c) p (with_state (record_at (records_of c) p) 2 (record_at (records_of c) p).indicator)) job.held
              (readings_for job.settings job.reserved) k axes;
          rest = (run_of c).rest;
        }
        run_is =
            w.appended_is
            ∙ ap (λ (x : Run). record { records = appended_all job.settings x.records job.held first n.index n.along; rest = x.rest }) w.with_state_is
            ∙ (λ i. record {
              records = appended_all job.settings (set (records_of c) p (with_state (record_at (records_of c) p) 2 (indicator_is i))) job.held (w.first_is i) (neighbours i).index (neighbours i).along;
              rest = (run_of c).rest;
            })

        carried_raised : carried ≡ job.carried + cond (at_ceiling job.settings.axes k) (record_at (records_of c) p).indicator 0
        carried_raised =
            w.carried_is
            ∙ ap₂ (λ b i. job.carried + cond b i 0)
            (ap (at_ceiling 8) levels_are ∙ ceiling_facts.axes_alike job.settings.axes k t.valid.sound.settings.axes.0 (few_axes job c store t.valid) place_index) indicator_is

        after_written : area_of job_after c₂ store ≡ written area after
        after_written =
            (λ i. record {
              job = record {
                settings = job.settings;
                held = job.held + count_admitted i;
                reserved = job.reserved + sizes_admitted i;
                pending = job.pending - indicator_is i;
                carried = carried_raised i;
                mean = job.mean;
              };
              run = run_is i;
              store = store;
            })
            ∙ sym (write_facts.refine area p t.valid t.idle t.place t.active fit)

        pub promoted_is : promotion_of Promoted job_after c₂ store ≡ refine_on limit area p
        unfolding outcome_of
        promoted_is = ap (λ (x : Area). record { outcome = promoted; area = x }) after_written ∙ sym (promoted_answer (fit_within limit (omega arith)))

        pub promoted_valid : ValidArea (area_of job_after c₂ store)
        unfolding machine_of
        promoted_valid =
            written_valid area after (after_sound fit) t.valid.lent.records t.valid.lent.store job_after c₂ store after_written
