-- `quadrature::combined_rule` meets its contract: by the state that was read, and the product of a coefficient and a rule fits.
-- Assumes nothing.
use borrow.Author.Rules.{sfits_of}
use borrow.Author.Tests.{le-leb, lt-leb}
use mathlib.Core.Path.{◌≡◌, refl, sym, ap, ap₂, ◌∙◌}
use mathlib.Core.List.{List}
use Prim.Native.Nat.{ℕ, ◌≤◌}
use native.Mathlib.Omega.{arith}
use lib.IntN.{ℤ, pos, nat_abs, ◌*ℤ◌}
use lib.ListN.{take}
use lib.Seq.{get_or-take}
use Rattle.sums.proofs.Words.{product_fits, product_is}
use Rattle.grid.specs.Tensor.{tensor_rule}
use Rattle.grid.specs.Coefficient.{coefficient}
use Rattle.area.specs.declared.IndexRecord.{IndexRecord}
use Rattle.area.specs.Records.{blank}
use Rattle.quadrature.specs.Readings.{record_at, stored_reading}
use Rattle.quadrature.specs.Linked.{delivered_in}
use Rattle.quadrature.specs.Parts.{combined_rule}
use Rattle.quadrature.proofs.Totals.{product_size}
use Rattle.quadrature.proofs.combined_rule.Goals as goal

module _ (hs rs : List IndexRecord) (store : List ℤ) (p : ℕ) where
  wanted-zero : (record_at rs p).state ≡ 0 → combined_rule hs rs store p ≡ pos 0
  unfolding combined_rule
  wanted-zero e = rw (lt-leb 1 (record_at rs p).state (omega arith))

  delivered_is : 1 ≤ (record_at rs p).state
      → combined_rule hs rs store p ≡ coefficient (delivered_in hs) (record_at rs p).levels *ℤ tensor_rule (record_at rs p).levels (stored_reading rs store)
  unfolding combined_rule
  delivered_is h = rw (le-leb 1 (record_at rs p).state h)

pub overflow_mul-result : goal.overflow_mul-result
overflow_mul-result c =
    product_fits c.coefficient.result c.tensor_rule-full.result c.tensor_rule-full.result (sfits_of c.coefficient.type_inv) (sfits_of c.tensor_rule-full.type_inv) refl
    (omega (arith, product_size c.coefficient.result c.tensor_rule-full.result c.coefficient.ensures.small c.tensor_rule-full.ensures.small))

pub returns-then-state-eq-WANTED : goal.returns-then-state-eq-WANTED
returns-then-state-eq-WANTED c =
    record {
      is = sym (wanted-zero (take c.args.held c.args.records.now) c.args.records.now c.args.store.now c.args.place (sym c.state-state.ensures ∙ c.if-state-eq-WANTED.true));
      small = omega arith;
    }

pub returns-else-state-eq-WANTED : goal.returns-else-state-eq-WANTED
returns-else-state-eq-WANTED c =
    let rs = c.args.records.now in
    let hs = take c.args.held rs in
    let is =
    product_is c.coefficient.result c.tensor_rule-full.result c.tensor_rule-full.result (sfits_of c.coefficient.type_inv) (sfits_of c.tensor_rule-full.type_inv) refl
    (omega (arith, product_size c.coefficient.result c.tensor_rule-full.result c.coefficient.ensures.small c.tensor_rule-full.ensures.small)) in
    let own = get_or-take c.args.held rs c.args.place blank c.requires.linked.2 in record {
      is = is
          ∙ ap₂ ◌*ℤ◌ (rw c.front.ensures at c.coefficient.ensures.is ∙ ap (λ (r : IndexRecord). coefficient (delivered_in hs) r.levels) own)
          (c.tensor_rule-full.ensures.is ∙ ap (λ k. tensor_rule k (stored_reading rs c.args.store.now)) c.levels.ensures)
          ∙ sym (delivered_is hs rs c.args.store.now c.args.place (omega (arith, c.state-state.ensures, c.if-state-eq-WANTED.false)));
      small = omega (arith, ap nat_abs is, product_size c.coefficient.result c.tensor_rule-full.result c.coefficient.ensures.small c.tensor_rule-full.ensures.small);
    }
