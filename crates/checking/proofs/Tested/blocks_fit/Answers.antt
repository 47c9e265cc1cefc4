-- `checking::Tested::blocks_fit` meets its contract: the blocks passed come to `first`, and those left to ask answer as all of them did.
-- Assumes nothing.
use mathlib.Core.Path.{◌≡◌, refl, sym, ap, ◌∙◌, subst}
use mathlib.Core.Bool.{true}
use mathlib.Core.List.{List}
use Prim.Native.Nat.{ℕ, ◌-◌, ◌<◌, ◌≤◌}
use native.Mathlib.Omega.{arith}
use lib.ListN.{length}
use Rattle.sums.specs.Sums.{nat_sum_to}
use Rattle.grid.specs.Index.{Within}
use Rattle.area.specs.declared.Settings.{Settings}
use Rattle.area.specs.Settings.{SettingsFit, reading_count}
use Rattle.area.proofs.Readings.{reading_facts}
use Rattle.grid.specs.Block.{block_size}
use Rattle.grid.proofs.LoopSteps.{size_small}
use Rattle.area.specs.declared.IndexRecord.{IndexRecord}
use Rattle.soundness.specs.Held.{levels_at, count_at}
use Rattle.soundness.specs.Test.{all_from, places_test}
use Rattle.soundness.specs.Totals.{block_test, blocks_test}
use Rattle.soundness.proofs.Exactly.{all_go, all_stop, all_end}
use Rattle.checking.proofs.Sums.{sum_next}
use Rattle.checking.proofs.Blocks.{ends_within}
use Rattle.checking.proofs.Passes.{place_within}
use Rattle.checking.proofs.Tested.blocks_fit.Goals as goal

pub loop-place-init : goal.loop-place-init
loop-place-init c =
    let rs = c.args.self.now.held.now in
    let e : length rs ≡ length c.args.self.now.held.now - 0 = omega arith in
    (omega arith, unfold nat_sum_to in refl, ap (λ n. all_from n 0 (block_test c.args.self.now.job.settings rs c.args.store.now)) e)

-- the count of a place whose levels were read is the one of the place, and small
module _ (g : Settings) (rs : List IndexRecord) (p : ℕ) {k : List ℕ} {n : ℕ} (ready : SettingsFit g) (tested : places_test g.axes rs ≡ true)
    (held : p < length rs) (read : k ≡ levels_at rs p) (counted : n ≡ reading_count g k) where
  count_is : n ≡ count_at g rs p
  count_is = counted ∙ ap (reading_count g) read

  count_small : n ≤ 16384
  count_small =
      let k = levels_at rs p in
      omega (
        arith,
        count_is,
        reading_facts.count g k,
        reading_facts.small g (block_size k) ready (size_small k (place_within g.axes rs tested p held)),
      )

pub reading_count-count-requires : goal.reading_count-count-requires
reading_count-count-requires c =
    subst Within (sym c.levels.ensures)
    (place_within c.args.self.now.job.settings.axes c.args.self.now.held.now c.args.self.now.passed c.loop-place.place (omega arith))

pub block_fits-requires-clause-count_value : goal.block_fits-requires-clause-count_value
block_fits-requires-clause-count_value c =
    let l = c.loop-place in (
      count_is c.args.self.now.job.settings c.args.self.now.held.now l.place c.args.self.now.settings c.args.self.now.passed (omega arith) c.levels.ensures c.reading_count-count.ensures,
      count_small c.args.self.now.job.settings c.args.self.now.held.now l.place c.args.self.now.settings c.args.self.now.passed (omega arith) c.levels.ensures c.reading_count-count.ensures,
    )

pub returns-then-not-block_fits : goal.returns-then-not-block_fits
unfolding blocks_test
returns-then-not-block_fits c =
    let l = c.loop-place in
    let rs = c.args.self.now.held.now in
    rw (l.invariant.2 ∙ all_stop (block_test c.args.self.now.job.settings rs c.args.store.now) (length c.args.self.now.held.now) l.place (omega arith) (sym c.block_fits.ensures ∙ c.if-not-block_fits.true)) refl

pub overflow_add-first : goal.overflow_add-first
overflow_add-first c =
    omega (arith, count_small c.args.self.now.job.settings c.args.self.now.held.now c.loop-place.place c.args.self.now.settings c.args.self.now.passed (omega arith) c.levels.ensures c.reading_count-count.ensures)

pub loop-place-preserved : goal.loop-place-preserved
loop-place-preserved c =
    let l = c.loop-place in
    let rs = c.args.self.now.held.now in
    let store = c.args.store.now in
    let good = sym c.block_fits.ensures ∙ c.if-not-block_fits.false in
    let ends = ends_within c.args.self.now.job.settings rs store l.place good in
    let count = count_is c.args.self.now.job.settings c.args.self.now.held.now l.place c.args.self.now.settings c.args.self.now.passed (omega arith) c.levels.ensures c.reading_count-count.ensures in
    let most = reading_facts.most c.args.self.now.job.settings c.args.self.now.settings in (
      omega arith,
      omega (arith, sum_next l.place (count_at c.args.self.now.job.settings rs)),
      l.invariant.2 ∙ all_go (block_test c.args.self.now.job.settings rs store) (length c.args.self.now.held.now) l.place (omega arith) good,
    )

pub returns : goal.returns
unfolding blocks_test
returns c =
    let l = c.loop-place in
    let rs = c.args.self.now.held.now in
    let e : l.place ≡ length rs = omega arith in
    let sum = l.invariant.1 ∙ ap (λ n. nat_sum_to n (count_at c.args.self.now.job.settings rs)) e in
    rw (l.invariant.2 ∙ all_end (block_test c.args.self.now.job.settings rs c.args.store.now) (length c.args.self.now.held.now) l.place (omega arith), sum, c.readings_for.ensures) refl
