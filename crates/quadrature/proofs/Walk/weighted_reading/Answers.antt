-- `quadrature::Walk::weighted_reading` meets its contract: a reading of size at most 2^20 times such a weight fits. Assumes nothing.
use borrow.Author.Rules.{sfits_of}
use Rattle.std.proofs.Common.{◌≡◌, ◌≤◌, ◌+◌, ◌^◌, ap, ◌∙◌, arith}
use Rattle.std.specs.Prelude.{pos, nat_abs, ◌*ℤ◌, get_or}
use native.Mathlib.Nat.{le_trans, le_of_eq, mul-le-mul}
use mir.Syntax.{w32}
use mir.Val.{to_z, of_z}
use mir.Facts.{to_z-of_z}
use Rattle.sums.proofs.Sizes.{abs_mul}
use Rattle.sums.proofs.Words.{reading_fits, product_fits, product_is}
use Rattle.quadrature.specs.Readings.{record_at}
use Rattle.quadrature.proofs.Walk.weighted_reading.Goals as goal

-- the reading that was read is the stored one, as 64 bits
reading_is : (c : goal.After-from) → c.from.result ≡ get_or c.args.self.now.store.now ((record_at c.args.self.now.records.now c.args.place).first + c.args.rank) (pos 0)
reading_is c =
    c.from.ensures
    ∙ ap (λ f. to_z w32 (of_z w32 (get_or c.args.self.now.store.now (f + c.args.rank) (pos 0)))) c.first_reading.ensures
    ∙ to_z-of_z (reading_fits _ c.requires.weight_bound.1)

-- the product is of size at most 2^40
small : (c : goal.After-from) → nat_abs (c.args.weight *ℤ get_or c.args.self.now.store.now ((record_at c.args.self.now.records.now c.args.place).first + c.args.rank) (pos 0)) ≤ 2 ^ 62
small c =
    let b = c.requires.weight_bound in
    le_trans (le_of_eq (abs_mul c.args.weight _)) (le_trans (mul-le-mul b.0 b.1) (omega arith))

pub overflow_mul-result : goal.overflow_mul-result
overflow_mul-result c = product_fits c.args.weight c.from.result _ c.ranges.weight (sfits_of c.from.type_inv) (reading_is c) (small c)

pub returns : goal.returns
returns c = product_is c.args.weight c.from.result _ c.ranges.weight (sfits_of c.from.type_inv) (reading_is c) (small c)
