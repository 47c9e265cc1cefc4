-- The causes of each call, test by test, as the code asks them.
-- Assumes nothing.
use mathlib.Core.Path.{◌≡◌, ap, ◌∙◌}
use mathlib.Core.Bool.{Bool, true, false, not, cond}
use mathlib.Core.List.{List, [], ◌∷◌}
use Prim.Native.Nat.{ℕ, ◌<◌, ◌≤◌}
use borrow.Author.Tests.{eq-eqb, ne_eqb, le-leb, lt-leb, lt-ltb, le-ltb}
use lib.IntN.{ℤ}
use lib.ListN.{length}
use Rattle.area.specs.declared.Settings.{Settings}
use Rattle.area.specs.Settings.{SettingsFit, axes_fit, budget_fit, reading_count}
use Rattle.grid.specs.Block.{block_size}
use Rattle.area.specs.Log.{Log}
use Rattle.soundness.proofs.Settings.{reads_axes, reads_budget}
use Rattle.machine.specs.Log.{first_wanted, any_wanted, wanted_index, active_at}
use Rattle.machine.specs.Causes.{Lengths, cause, first_cause, short, in_range, job_causes, point_own_causes, start_causes, point_causes, deliver_causes, choose_causes, promote_causes, result_causes}
use Rattle.calls.proofs.Tests.{hit, miss, end, Clear, clear, refusing, passing, refusing_wanted, passing-wanted}

-- ---- start
module _ (z : Lengths) (g : Settings) where
  pub start_axes : axes_fit g ≡ false → first_cause (start_causes z g) ≡ 1
  unfolding start_causes
  start_axes e = hit _ 1 _ (ap not e)

  module _ (axes : axes_fit g ≡ true) where
    pub start_budget : budget_fit g ≡ false → first_cause (start_causes z g) ≡ 2
    unfolding start_causes
    start_budget e = miss _ 1 _ (ap not axes) ∙ hit _ 2 _ (ap not e)

  -- settings in range
  module _ (fit : SettingsFit g) where
    pub start_short : short z g ≡ true → first_cause (start_causes z g) ≡ 3
    unfolding start_causes
    start_short e = miss _ 1 _ (ap not ((reads_axes g).back fit.axes)) ∙ (miss _ 2 _ (ap not ((reads_budget g).back fit.budget)) ∙ hit _ 3 _ e)

    pub start_fits : short z g ≡ false → first_cause (start_causes z g) ≡ 0
    unfolding start_causes
    start_fits e = miss _ 1 _ (ap not ((reads_axes g).back fit.axes)) ∙ (miss _ 2 _ (ap not ((reads_budget g).back fit.budget)) ∙ (miss _ 3 _ e ∙ end))

-- ---- storage and area, which every later call asks first
module _ (z : Lengths) (sound : Bool) (l : Log) where
  abbrev pub common : ℕ
  common = first_cause (result_causes z sound l)

  pub common_short : short z l.settings ≡ true → common ≡ 3
  unfolding result_causes
  common_short e = hit _ 3 _ e

  pub common_unsound : short z l.settings ≡ false → sound ≡ false → common ≡ 4
  unfolding result_causes
  common_unsound e f = miss _ 3 _ e ∙ hit _ 4 _ (ap not f)

  pub common_none : short z l.settings ≡ false → sound ≡ true → common ≡ 0
  unfolding result_causes
  common_none e f = miss _ 3 _ e ∙ (miss _ 4 _ (ap not f) ∙ end)

  pub common_clear : common ≡ 0 → Clear (short z l.settings) (not sound)
  unfolding result_causes
  common_clear e = clear _ _ e

  -- ---- choose
  pub choose_common : (common ≡ 0 → ⊥) → first_cause (choose_causes z sound l) ≡ common
  unfolding choose_causes result_causes
  choose_common n = refusing _ _ _ n

  module _ (none : common ≡ 0) where
    pub choose_wanted : any_wanted l.entries ≡ true → first_cause (choose_causes z sound l) ≡ 6
    unfolding choose_causes result_causes
    choose_wanted e = passing _ _ _ none ∙ hit _ 6 _ e

    pub choose_free : any_wanted l.entries ≡ false → first_cause (choose_causes z sound l) ≡ 0
    unfolding choose_causes result_causes
    choose_free e = passing _ _ _ none ∙ (miss _ 6 _ e ∙ end)

  -- ---- promote, which is refused as choose is, and then by its place
  module _ (p : ℕ) where
    pub promote_as_choose : (first_cause (choose_causes z sound l) ≡ 0 → ⊥) → first_cause (promote_causes z sound l p) ≡ first_cause (choose_causes z sound l)
    unfolding promote_causes choose_causes
    promote_as_choose n = refusing_wanted _ _ _ _ n

    module _ (none : first_cause (choose_causes z sound l) ≡ 0) where
      pub promote_not-active : active_at l.entries p ≡ false → first_cause (promote_causes z sound l p) ≡ 11
      unfolding promote_causes choose_causes
      promote_not-active e = passing-wanted _ _ _ _ none ∙ hit _ 11 _ (ap not e)

      pub promote_active : active_at l.entries p ≡ true → first_cause (promote_causes z sound l p) ≡ 0
      unfolding promote_causes choose_causes
      promote_active e = passing-wanted _ _ _ _ none ∙ (miss _ 11 _ (ap not e) ∙ end)

  -- ---- deliver
  module _ (rs : List ℤ) where
    pub deliver_common : (common ≡ 0 → ⊥) → first_cause (deliver_causes z sound l rs) ≡ common
    unfolding deliver_causes result_causes
    deliver_common n = refusing _ _ _ n

    module _ (none : common ≡ 0) where
      pub deliver-nothing : any_wanted l.entries ≡ false → first_cause (deliver_causes z sound l rs) ≡ 5
      unfolding deliver_causes result_causes
      deliver-nothing e = passing _ _ _ none ∙ hit _ 5 _ (ap not e)

      module _ (wanted : any_wanted l.entries ≡ true) where
        pub deliver_count : (length rs ≡ reading_count l.settings (wanted_index l.entries) → ⊥) → first_cause (deliver_causes z sound l rs) ≡ 7
        unfolding deliver_causes result_causes
        deliver_count n = passing _ _ _ none ∙ (miss _ 5 _ (ap not wanted) ∙ hit _ 7 _ (ap not (ne_eqb (length rs) (reading_count l.settings (wanted_index l.entries)) n)))

        module _ (whole : length rs ≡ reading_count l.settings (wanted_index l.entries)) where
          after_count : first_cause (deliver_causes z sound l rs) ≡ first_cause (cause (not (in_range rs)) 8 ∷ [])
          unfolding deliver_causes result_causes
          after_count = passing _ _ _ none ∙ (miss _ 5 _ (ap not wanted) ∙ miss _ 7 _ (ap not (eq-eqb (length rs) (reading_count l.settings (wanted_index l.entries)) whole)))

          pub deliver_range : in_range rs ≡ false → first_cause (deliver_causes z sound l rs) ≡ 8
          deliver_range e = after_count ∙ hit _ 8 _ (ap not e)

          pub deliver-fits : in_range rs ≡ true → first_cause (deliver_causes z sound l rs) ≡ 0
          deliver-fits e = after_count ∙ (miss _ 8 _ (ap not e) ∙ end)

  -- ---- point
  module _ (n w : ℕ) where
    pub point_buffer_lem : w < l.settings.axes → first_cause (point_causes z sound l n w) ≡ 3
    unfolding point_causes
    point_buffer_lem h = hit _ 3 _ (ap (λ t. cond (not t) true (short z l.settings)) (lt-leb l.settings.axes w h))

    module _ (room : l.settings.axes ≤ w) where
      -- storage alone can be too short
      buffered : first_cause (point_causes z sound l n w) ≡ first_cause (job_causes z sound l.settings false (point_own_causes l n))
      unfolding point_causes
      buffered = ap (λ t. first_cause (job_causes z sound l.settings (not t) (point_own_causes l n))) (le-leb l.settings.axes w room)

      pub point_common : (common ≡ 0 → ⊥) → first_cause (point_causes z sound l n w) ≡ common
      unfolding result_causes
      point_common f = buffered ∙ refusing _ _ _ f

      module _ (none : common ≡ 0) where
        pub point_nothing : any_wanted l.entries ≡ false → first_cause (point_causes z sound l n w) ≡ 5
        unfolding result_causes
        point_nothing e = buffered ∙ (passing _ _ _ none ∙ hit _ 5 _ (ap not e))

        module _ (wanted : any_wanted l.entries ≡ true) where
          pub point_past : block_size (wanted_index l.entries) ≤ n → first_cause (point_causes z sound l n w) ≡ 9
          unfolding result_causes
          point_past h = buffered ∙ (passing _ _ _ none ∙ (miss _ 5 _ (ap not wanted) ∙ hit _ 9 _ (le-leb (block_size (wanted_index l.entries)) n h)))

          pub point_fits : n < block_size (wanted_index l.entries) → first_cause (point_causes z sound l n w) ≡ 0
          unfolding result_causes
          point_fits h = buffered ∙ (passing _ _ _ none ∙ (miss _ 5 _ (ap not wanted) ∙ (miss _ 9 _ (lt-leb (block_size (wanted_index l.entries)) n h) ∙ end)))

-- ---- wanted or not
module _ (l : Log) where
  pub wanted-yes : first_wanted l.entries < length l.entries → any_wanted l.entries ≡ true
  unfolding any_wanted
  wanted-yes h = lt-ltb (first_wanted l.entries) (length l.entries) h

  pub wanted_no : length l.entries ≤ first_wanted l.entries → any_wanted l.entries ≡ false
  unfolding any_wanted
  wanted_no h = le-ltb (first_wanted l.entries) (length l.entries) h
