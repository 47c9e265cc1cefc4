-- What a file prints, from its settings and its entries once these are read. So the text of a given file can be computed: the execution
-- itself reads an entry's bytes anew wherever the entry is used.
-- Assumes nothing.
use mathlib.Core.Path.{◌≡◌, refl, ap, ap₂, ◌∙◌}
use mathlib.Core.Bool.{true, cond}
use mathlib.Core.List.{List, [], ◌∷◌}
use borrow.Author.Tests.{le-leb, lt-leb}
use native.Mathlib.Omega.{arith}
use Prim.Native.Nat.{ℕ, zero, suc, ◌+◌}
use lib.Dec.{eqb}
use Rattle.area.specs.declared.Settings.{Settings}
use Rattle.area.specs.Log.{Machine}
use Rattle.machine.specs.Log.{any_wanted}
use Rattle.machine.specs.Choose as choice
use Rattle.machine.specs.Promote as refining
use Rattle.machine.specs.Steps.{started, deliver, promote_step}
use Rattle.machine.specs.Causes.{first_cause, start_causes, deliver_causes}
use Rattle.jobfile.specs.Form.{formed, form_of, entry_count}
use Rattle.jobfile.specs.File.{FileEntry, entry_of}
use Rattle.reporting.specs.Text.{short}
use Rattle.running.specs.Execution.{own_lengths, Result, refused_at, ended, unfinished, delivery_byte, by_outcome, by_choice, execution, step_limit, start_byte, start_cause, file_settings, result_in, result_of}
use Rattle.running.specs.Report.{text_in, text_of}

-- k entries of a file from number i on
unfoldable pub entries_from : List ℕ → (k i : ℕ) → List FileEntry
entries_from c zero i = []
entries_from c (suc k) i = entry_of c i ∷ entries_from c k (i + 1)

abbrev cause_of : Machine → FileEntry → ℕ
cause_of m e = first_cause (deliver_causes own_lengths true m.log e.readings)

-- the execution with the entries that are left, the first of which has number i
unfoldable pub replay : List ℕ → (n : ℕ) → List FileEntry → Machine → (i : ℕ) → Result
replay c zero es m i = unfinished
replay c (suc n) [] m i = cond (any_wanted m.log.entries) (ended short m i) (by_choice (choice.choose m.log) m i (λ p. replay c n [] (promote_step m p) i))
replay c (suc n) (e ∷ es) m i =
    cond (any_wanted m.log.entries)
    (cond (eqb (cause_of m e) 0) (replay c n es (deliver m e.readings e.indicator) (i + 1)) (refused_at (cause_of m e) (delivery_byte c i (cause_of m e))))
    (by_choice (choice.choose m.log) m i (λ p. replay c n (e ∷ es) (promote_step m p) i))

-- k more steps than n, one by one, so that a run that ends before is computed without n
abbrev pub more : (k n : ℕ) → ℕ
more zero n = n
more (suc k) n = suc (more k n)

-- a choice goes on alike with what is alike at every place
chooses : {f g : ℕ → Result} (x : choice.Choice) (m : Machine) (i : ℕ) → ((p : ℕ) → f p ≡ g p) → by_choice x m i f ≡ by_choice x m i g
unfolding by_choice
chooses choice.met m i h = refl
chooses choice.capped m i h = refl
chooses (choice.place p) m i h = ap (by_outcome (refining.promote_at m.log p).outcome m i) (h p)

module _ (c : List ℕ) where
  replays : (n k : ℕ) (m : Machine) (i : ℕ) → k + i ≡ entry_count c → execution c n m i ≡ replay c n (entries_from c k i) m i
  unfolding execution replay entries_from
  replays zero k m i h = refl
  replays (suc n) zero m i h =
      rw (le-leb (entry_count c) i (omega (arith, h)))
      (ap (cond (any_wanted m.log.entries) (ended short m i)) (chooses (choice.choose m.log) m i (λ p. replays n zero (promote_step m p) i h)))
  replays (suc n) (suc k) m i h =
      rw (lt-leb (entry_count c) i (omega (arith, h)))
      (ap₂ (λ x y. cond (any_wanted m.log.entries)
      (cond (eqb (cause_of m (entry_of c i)) 0) x (refused_at (cause_of m (entry_of c i)) (delivery_byte c i (cause_of m (entry_of c i)))))
      y)
      (replays n k (deliver m (entry_of c i).readings (entry_of c i).indicator) (i + 1) (omega (arith, h))) (chooses (choice.choose m.log) m i (λ p. replays n (suc k) (promote_step m p) i h)))

  -- of a file of the right form that start accepts, with settings g and k entries, which ends after at most 20 steps
  pub prints : (g : Settings) (k : ℕ) (es : List FileEntry) (text : List ℕ) → form_of c ≡ formed → file_settings c ≡ g → first_cause (start_causes own_lengths g) ≡ 0 → entry_count c ≡ k
      → entries_from c k 0 ≡ es → ((n : ℕ) → text_in k (replay c (more 20 n) es (started g) 0) ≡ text) → text_of c ≡ text
  unfolding text_of result_of result_in
  prints g k es text form settings start count entries printed =
      ap₂ text_in count (ap (λ f. result_in f c) form ∙ by_start ∙ ap (λ x. replay c step_limit x (started g) 0) entries) ∙ printed 1005
    where
      by_start : cond (eqb (start_cause c) 0) (execution c step_limit (started (file_settings c)) 0) (refused_at (start_cause c) (start_byte (start_cause c)))
          ≡ replay c step_limit (entries_from c k 0) (started g) 0
      by_start =
          ap (λ (s : Settings). cond (eqb (first_cause (start_causes own_lengths s)) 0) (execution c step_limit (started s) 0) (refused_at (first_cause (start_causes own_lengths s)) (start_byte (first_cause (start_causes own_lengths s))))) settings
          ∙ ap (λ n. cond (eqb n 0) (execution c step_limit (started g) 0) (refused_at n (start_byte n))) start
          ∙ replays step_limit k (started g) 0 (omega (arith, count))
