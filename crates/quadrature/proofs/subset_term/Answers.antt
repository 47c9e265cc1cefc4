-- `quadrature::subset_term` meets its contract: the raised index is found or not, and delivered or wanted. Assumes nothing.
use borrow.Author.Rules.{sfits_of}
use Rattle.std.proofs.Common.{◌≡◌, ◌≤◌, ℕ, List, sym, ap, ◌∙◌, arith}
use Rattle.std.specs.Prelude.{Some, None, pos}
use Rattle.sums.proofs.Words.{back}
use Rattle.grid.specs.Coefficient.{sign, raised_on, marks}
use Rattle.area.specs.declared.IndexRecord.{IndexRecord}
use Rattle.area.specs.Lookup.{lookup_in}
use Rattle.quadrature.specs.Readings.{record_at, place_in}
use Rattle.quadrature.specs.Linked.{subset_term, Linked}
use Rattle.quadrature.proofs.Raised.{found_at, found_none}
use Rattle.quadrature.proofs.Delivered.{in_delivered, out_wanted, out_absent}
use Rattle.quadrature.proofs.subset_term.Goals as goal

module _ {axes : ℕ} {rs : List IndexRecord} (linked : Linked axes rs) (place mask : ℕ) where
  abbrev levels : List ℕ
  levels = (record_at rs place).levels

  abbrev raised : List ℕ
  raised = raised_on levels (marks 8 mask)

  -- the record that was found
  state_is : (q : ℕ) → lookup_in rs raised ≡ Some q → (record_at rs (place_in rs raised)).state ≡ (record_at rs q).state
  state_is q e = ap (λ p. (record_at rs p).state) (found_at rs raised linked.few q e).0

  pub wanted_term : (q : ℕ) → lookup_in rs raised ≡ Some q → (record_at rs q).state ≡ 0 → subset_term rs levels mask ≡ pos 0
  unfolding subset_term
  wanted_term q e s = rw (out_wanted linked raised (state_is q e ∙ s))

  pub delivered_term : (q : ℕ) → lookup_in rs raised ≡ Some q → 1 ≤ (record_at rs q).state → subset_term rs levels mask ≡ sign (marks 8 mask)
  unfolding subset_term
  delivered_term q e s =
      rw
      (in_delivered linked raised
      (omega (arith, (found_at rs raised linked.few q e).0, (found_at rs raised linked.few q e).1))
      (omega (arith, state_is q e)))

  pub absent_term : lookup_in rs raised ≡ None → subset_term rs levels mask ≡ pos 0
  unfolding subset_term
  absent_term e = rw (out_absent linked raised (found_none rs raised linked.few e))

pub state-is_wanted-requires : goal.state-is_wanted-requires
state-is_wanted-requires c =
    let rs = c.args.held.now in
    let raised = raised_on (record_at rs c.args.place).levels (marks 8 c.args.mask) in
    (found_at rs raised c.requires.0.few c.in-Some.at (sym c.in-Some.ensures)).1

pub returns-then-is_wanted : goal.returns-then-is_wanted
returns-then-is_wanted c =
    sym (wanted_term c.requires.0 c.args.place c.args.mask c.in-Some.at (sym c.in-Some.ensures) (sym c.state-is_wanted.ensures ∙ c.if-is_wanted.true))

pub returns-else-is_wanted : goal.returns-else-is_wanted
returns-else-is_wanted c =
    back c.subset_sign.result (sfits_of c.subset_sign.type_inv) ∙ c.subset_sign.ensures
    ∙ sym (delivered_term c.requires.0 c.args.place c.args.mask c.in-Some.at (sym c.in-Some.ensures) (omega (arith, c.state-is_wanted.ensures, c.if-is_wanted.false)))

pub returns-in-None : goal.returns-in-None
returns-in-None c = sym (absent_term c.requires.0 c.args.place c.args.mask (sym c.in-None.ensures))
