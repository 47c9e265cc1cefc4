-- `quadrature::delivered_difference` meets its contract: by the state that was read. Assumes nothing.
use borrow.Author.Rules.{sfits_of}
use borrow.Author.Tests.{le-leb, lt-leb}
use mathlib.Core.Path.{◌≡◌, sym, ap, ◌∙◌}
use mathlib.Core.List.{List}
use Prim.Native.Nat.{ℕ, ◌≤◌}
use native.Mathlib.Omega.{arith}
use lib.IntN.{ℤ, pos, nat_abs}
use Rattle.sums.proofs.Words.{back}
use Rattle.grid.specs.Difference.{scaled_difference}
use Rattle.area.specs.declared.IndexRecord.{IndexRecord}
use Rattle.quadrature.specs.Readings.{record_at, stored_reading}
use Rattle.quadrature.specs.Parts.{delivered_difference}
use Rattle.quadrature.proofs.delivered_difference.Goals as goal

module _ (rs : List IndexRecord) (store : List ℤ) (p : ℕ) where
  wanted-zero : (record_at rs p).state ≡ 0 → delivered_difference rs store p ≡ pos 0
  unfolding delivered_difference
  wanted-zero e = rw (lt-leb 1 (record_at rs p).state (omega arith))

  delivered_is : 1 ≤ (record_at rs p).state → delivered_difference rs store p ≡ scaled_difference (record_at rs p).levels (stored_reading rs store)
  unfolding delivered_difference
  delivered_is h = rw (le-leb 1 (record_at rs p).state h)

pub returns-then-state-eq-WANTED : goal.returns-then-state-eq-WANTED
returns-then-state-eq-WANTED c =
    record {
      is = sym (wanted-zero c.args.records.now c.args.store.now c.args.place (sym c.state.ensures ∙ c.if-state-eq-WANTED.true));
      small = omega arith;
    }

pub returns-else-state-eq-WANTED : goal.returns-else-state-eq-WANTED
returns-else-state-eq-WANTED c =
    let rs = c.args.records.now in
    let is = back c.scaled_difference.result (sfits_of c.scaled_difference.type_inv) in record {
      is = is ∙ c.scaled_difference.ensures.is ∙ ap (λ k. scaled_difference k (stored_reading rs c.args.store.now)) c.levels.ensures
          ∙ sym (delivered_is rs c.args.store.now c.args.place (omega (arith, c.state.ensures, c.if-state-eq-WANTED.false)));
      small = omega (arith, ap nat_abs is, c.scaled_difference.ensures.small);
    }
