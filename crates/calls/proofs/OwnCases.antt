-- Each row of the table of causes in its own case.
-- The idea: the law of the row's list of causes, test by test, and then the answer of a call that has a cause.
-- Assumes nothing.
use mathlib.Core.Path.{◌≡◌, refl, ap, ◌∙◌}
use mathlib.Core.Logic.{◌⊎◌, inl, inr}
use mathlib.Core.Bool.{Bool, true, false, not, cond}
use mathlib.Core.List.{List}
use Prim.Native.Nat.{ℕ, suc, ◌<◌, ◌≤◌}
use native.Mathlib.Omega.{arith}
use native.Mathlib.Decide.{dec_lt}
use borrow.Author.Tests.{le-leb}
use lib.IntN.{ℤ}
use lib.ListN.{length}
use lib.Seq.{length-take-le}
use Rattle.grid.specs.Block.{block_size}
use Rattle.area.specs.declared.Settings.{Settings}
use Rattle.area.specs.Settings.{SettingsFit, reading_count, least_store}
use Rattle.area.specs.Log.{Log}
use Rattle.area.specs.Encoding.{Area, held_of, entries_of, machine_of}
use Rattle.quadrature.specs.Readings.{record_at}
use Rattle.soundness.specs.Sound.{Sound, LongEnough}
use Rattle.soundness.specs.Clauses.{is_sound}
use Rattle.soundness.proofs.Exactly.{refuted}
use Rattle.soundness.proofs.Settings.{reads_axes}
use Rattle.soundness.proofs.Clauses.{clause_facts}
use Rattle.encoding.proofs.Places.{entries_length, state_at_lem}
use Rattle.machine.specs.Log.{any_wanted, wanted_index, Active, active_at}
use Rattle.machine.specs.Causes.{Lengths, first_cause, short, in_range, result_causes, point_causes, deliver_causes, choose_causes, promote_causes}
use Rattle.machine.proofs.ActivePlaces.{reads_active}
use Rattle.calls.specs.Replies.{lengths_of}
use Rattle.calls.specs.Table.{Call, JobRow, on_job, start, point, points, deliver, choose, promote, result, doubles, cross_total, check, row, causes_of, refusal}
use Rattle.calls.specs.Calls.{refusal_on}
use Rattle.calls.specs.OwnCases.{RefusedBy, OnJob, BufferFits, Short, OwnCases}
use Rattle.calls.proofs.Tests.{hit, miss, axes_out, budget_out, few_records, few_readings_lem, enough}
use Rattle.calls.proofs.Causes as causes
use Rattle.calls.proofs.CausesApplied.{refused_there}

-- ---- storage

is_short : (z : Lengths) (g : Settings) → (z.records < 512) ⊎ (z.readings < least_store g) → short z g ≡ true
is_short z g (inl h) = few_records z g h
is_short z g (inr h) = go (dec_lt z.records 512)
  where
    go : Dec (z.records < 512) → short z g ≡ true
    go (yes k) = few_records z g k
    go (no k) = few_readings_lem z g (omega arith) h

-- ---- what every call on a job asks first

module _ (z : Lengths) (sound : Bool) (l : Log) (r : JobRow) where
  row_storage : short z l.settings ≡ true → first_cause (causes_of z sound l (on_job r)) ≡ 3
  unfolding causes_of
  row_storage e = hit _ 3 _ (either (r.buffer_short l.settings))
    where
      either : (t : Bool) → cond t true (short z l.settings) ≡ true
      either true = refl
      either false = e

  row_unsound : r.buffer_short l.settings ≡ false → short z l.settings ≡ false → sound ≡ false → first_cause (causes_of z sound l (on_job r)) ≡ 4
  unfolding causes_of
  row_unsound b e s = miss _ 3 _ (ap (λ t. cond t true (short z l.settings)) b ∙ e) ∙ hit _ 4 _ (ap not s)

module _ (a : Area) where
  abbrev z : Lengths
  z = lengths_of a

  abbrev l : Log
  l = (machine_of a).log

  -- the answer of a call that has a cause
  by : (c : Call) (n : ℕ) → refusal_on a c ≡ suc n → RefusedBy a c (suc n)
  by c n e = refused_there a c (suc n) e (λ f. omega (arith, f))

  storage_by : (c : Call) (r : JobRow) → row c ≡ on_job r → Short a a.job.settings → RefusedBy a c 3
  unfolding refusal machine_of
  storage_by c r is h = by c 2 (ap (λ x. first_cause (causes_of z (is_sound a) l x)) is ∙ row_storage z (is_sound a) l r (is_short z a.job.settings h))

  storage : (c : Call) → OnJob c → Short a a.job.settings → RefusedBy a c 3
  unfolding row
  storage (start g) j h = absurd j
  storage (point n buffer) j h = storage_by (point n buffer) _ refl h
  storage (points n buffer) j h = storage_by (points n buffer) _ refl h
  storage (deliver rs i) j h = storage_by (deliver rs i) _ refl h
  storage choose j h = storage_by choose _ refl h
  storage (promote p) j h = storage_by (promote p) _ refl h
  storage result j h = storage_by result _ refl h
  storage doubles j h = storage_by doubles _ refl h
  storage cross_total j h = storage_by cross_total _ refl h
  storage check j h = absurd j

  module _ (long : LongEnough a) where
    long_there : short z a.job.settings ≡ false
    long_there = enough z a.job.settings long.records long.store

    unsound_by : (c : Call) (r : JobRow) → row c ≡ on_job r → r.buffer_short a.job.settings ≡ false → (Sound a → ⊥) → RefusedBy a c 4
    unfolding refusal machine_of
    unsound_by c r is b n =
        by c 3 (ap (λ x. first_cause (causes_of z (is_sound a) l x)) is ∙ row_unsound z (is_sound a) l r b long_there (refuted (is_sound a) (clause_facts.agree a) n))

    not_sound : (c : Call) → OnJob c → BufferFits a c → (Sound a → ⊥) → RefusedBy a c 4
    unfolding row
    not_sound (start g) j b n = absurd j
    not_sound (point k buffer) j b n = unsound_by (point k buffer) _ refl (ap not (le-leb a.job.settings.axes (length buffer) b)) n
    not_sound (points k buffer) j b n = unsound_by (points k buffer) _ refl (ap not (le-leb a.job.settings.axes (length buffer) b)) n
    not_sound (deliver rs i) j b n = unsound_by (deliver rs i) _ refl refl n
    not_sound choose j b n = unsound_by choose _ refl refl n
    not_sound (promote p) j b n = unsound_by (promote p) _ refl refl n
    not_sound result j b n = unsound_by result _ refl refl n
    not_sound doubles j b n = unsound_by doubles _ refl refl n
    not_sound cross_total j b n = unsound_by cross_total _ refl refl n
    not_sound check j b n = absurd j

    -- ---- the calls' own causes, in a sound area

    module _ (sound : Sound a) where
      clear : first_cause (result_causes z (is_sound a) l) ≡ 0
      unfolding machine_of
      clear = causes.common_none z (is_sound a) l long_there ((clause_facts.agree a).back sound)

      deliver_none : (rs : List ℤ) (i : ℕ) → any_wanted (entries_of a) ≡ false → RefusedBy a (deliver rs i) 5
      unfolding refusal causes_of row deliver_causes machine_of
      deliver_none rs i w = by (deliver rs i) 4 (causes.deliver-nothing z (is_sound a) l rs clear w)

      wanted_six : any_wanted (entries_of a) ≡ true → first_cause (choose_causes z (is_sound a) l) ≡ 6
      unfolding machine_of
      wanted_six w = causes.choose_wanted z (is_sound a) l clear w

      choose_wanted : any_wanted (entries_of a) ≡ true → RefusedBy a choose 6
      unfolding refusal causes_of row choose_causes machine_of
      choose_wanted w = by choose 5 (wanted_six w)

      module _ (p : ℕ) where
        promote_wanted : any_wanted (entries_of a) ≡ true → RefusedBy a (promote p) 6
        unfolding refusal causes_of row promote_causes machine_of
        promote_wanted w = by (promote p) 5 (causes.promote_as_choose z (is_sound a) l p (λ e. omega (arith, e, wanted_six w)) ∙ wanted_six w)

        module _ (w : any_wanted (entries_of a) ≡ false) where
          by_place : active_at (entries_of a) p ≡ false → RefusedBy a (promote p) 11
          unfolding refusal causes_of row promote_causes machine_of
          by_place e = by (promote p) 10 (causes.promote_not-active z (is_sound a) l p (causes.choose_free z (is_sound a) l clear w) e)

          not_active : (Active (entries_of a) p → ⊥) → RefusedBy a (promote p) 11
          not_active n = by_place (refuted (active_at (entries_of a) p) (reads_active (entries_of a) p) n)

          past_held : a.job.held ≤ p → RefusedBy a (promote p) 11
          unfolding entries_of
          past_held h =
              not_active (λ t. omega (arith, t.place, entries_length a.job.settings a.store (held_of a), length-take-le a.job.held a.run.records sound.held_lent))

          old_place : (record_at (held_of a) p).state ≡ 2 → RefusedBy a (promote p) 11
          unfolding entries_of
          old_place e = not_active (λ t. omega (arith, t.active, e, state_at_lem a.job.settings a.store (held_of a) p))

      count : (rs : List ℤ) (i : ℕ) → any_wanted (entries_of a) ≡ true → (length rs ≡ reading_count a.job.settings (wanted_index (entries_of a)) → ⊥) → RefusedBy a (deliver rs i) 7
      unfolding refusal causes_of row deliver_causes machine_of
      count rs i w n = by (deliver rs i) 6 (causes.deliver_count z (is_sound a) l rs clear w n)

      range : (rs : List ℤ) (i : ℕ) → any_wanted (entries_of a) ≡ true → length rs ≡ reading_count a.job.settings (wanted_index (entries_of a)) → in_range rs ≡ false
          → RefusedBy a (deliver rs i) 8
      unfolding refusal causes_of row deliver_causes machine_of
      range rs i w whole out = by (deliver rs i) 7 (causes.deliver_range z (is_sound a) l rs clear w whole out)

      module _ (n : ℕ) (buffer : List ℕ) (room : a.job.settings.axes ≤ length buffer) where
        point_none : any_wanted (entries_of a) ≡ false → RefusedBy a (point n buffer) 5 × RefusedBy a (points n buffer) 5
        unfolding refusal causes_of row point_causes machine_of
        point_none w = let e = causes.point_nothing z (is_sound a) l n (length buffer) room clear w in (by (point n buffer) 4 e, by (points n buffer) 4 e)

        past_block : any_wanted (entries_of a) ≡ true → block_size (wanted_index (entries_of a)) ≤ n → RefusedBy a (point n buffer) 9 × RefusedBy a (points n buffer) 9
        unfolding refusal causes_of row point_causes machine_of
        past_block w h = let e = causes.point_past z (is_sound a) l n (length buffer) room clear w h in (by (point n buffer) 8 e, by (points n buffer) 8 e)

  point_buffer_lem : (n : ℕ) (buffer : List ℕ) → length buffer < a.job.settings.axes → RefusedBy a (point n buffer) 3 × RefusedBy a (points n buffer) 3
  unfolding refusal causes_of row point_causes machine_of
  point_buffer_lem n buffer h = let e = causes.point_buffer_lem z (is_sound a) l n (length buffer) h in (by (point n buffer) 2 e, by (points n buffer) 2 e)

  -- ---- start

  axes : (g : Settings) → (1 ≤ g.axes → g.axes ≤ 8 → ⊥) → RefusedBy a (start g) 1
  unfolding refusal causes_of row
  axes g n = by (start g) 0 (causes.start_axes z g (axes_out g n))

  budget : (g : Settings) → 1 ≤ g.axes → g.axes ≤ 8 → (1 ≤ g.budget → g.budget ≤ 8192 → ⊥) → RefusedBy a (start g) 2
  unfolding refusal causes_of row
  budget g low high n = by (start g) 1 (causes.start_budget z g ((reads_axes g).back (low, high)) (budget_out g n))

  start_storage : (g : Settings) → SettingsFit g → Short a g → RefusedBy a (start g) 3
  unfolding refusal causes_of row
  start_storage g fit h = by (start g) 2 (causes.start_short z g fit (is_short z g h))

pub own_cases : OwnCases
own_cases =
    record {
      axes = axes;
      budget = budget;
      start_storage = start_storage;
      storage = storage;
      point_buffer_lem = point_buffer_lem;
      not_sound = λ a c j long b n. not_sound a long c j b n;
      point_none = λ a n buffer long sound room w. point_none a long sound n buffer room w;
      deliver_none = λ a rs i long sound w. deliver_none a long sound rs i w;
      choose_wanted = choose_wanted;
      promote_wanted = λ a p long sound. promote_wanted a long sound p;
      count = λ a rs i long sound w n. count a long sound rs i w n;
      range = λ a rs i long sound w whole out. range a long sound rs i w whole out;
      past_block = λ a n buffer long sound room w h. past_block a long sound n buffer room w h;
      not_active = λ a p long sound. not_active a long sound p;
      past_held = λ a p long sound. past_held a long sound p;
      old_place = λ a p long sound. old_place a long sound p;
    }
