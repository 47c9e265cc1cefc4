-- The calls of a run are accepted: a supplied block fits, and with nothing wanted neither choose nor the promotion of an active place is refused.
-- Assumes nothing.
use mathlib.Core.Path.{◌≡◌, refl, ap, sym, ◌∙◌}
use mathlib.Core.Bool.{Bool, true, false, cond}
use mathlib.Core.List.{List, [], ◌∷◌, map}
use Prim.Native.Nat.{ℕ, suc, ◌+◌, ◌<◌, ◌≤◌}
use native.Mathlib.Nat.{zero-add}
use native.Mathlib.Omega.{arith}
use borrow.Author.Tests.{le-leb}
use lib.Dec.{eqb}
use lib.IntN.{ℤ, nat_abs}
use lib.ListN.{length, set, length-map}
use Rattle.grid.specs.Block.{block, block_size}
use Rattle.grid.specs.Terms.{IsReading}
use Rattle.grid.proofs.Facts.{block-facts}
use Rattle.area.specs.Entry.{Entry}
use Rattle.area.proofs.Readings.{reading_facts}
use Rattle.area.specs.Log.{Log, Machine}
use Rattle.machine.specs.Log.{first_wanted, wanted_index, Active}
use Rattle.machine.specs.Choose as choice
use Rattle.machine.specs.Promote as refining
use Rattle.machine.specs.Counts.{count_of}
use Rattle.machine.specs.Steps as steps
use Rattle.machine.specs.Causes.{Lengths, first_cause, short, in_range, deliver_causes, choose_causes, promote_causes, result_causes}
use Rattle.machine.proofs.ActivePlaces.{place-facts}
use Rattle.calls.specs.Replies.{accepted, chosen, promotion}
use Rattle.calls.proofs.Causes.{common_none, wanted-yes, wanted_no, deliver-fits, choose_free, promote_active}
use Rattle.published.specs.Figure.{Problem}
use Rattle.published.specs.Turns.{supply, ReadingValued}
use Rattle.calls.specs.Table.{Call, choose, promote, answer, row, causes_of, effect_of, passes_check, accepted_answer, refusal, answer_of, changed, state_after}
use Rattle.calls.proofs.Rows.{promote_effect}
use Rattle.history.specs.LentCalls.{LentCall, lengths_lent}
use Rattle.history.specs.Logged.{state_of, refusal_by, answer_by}
use Rattle.history.specs.Source.{supply_call}
use Rattle.history.proofs.Moves.{moved, machine_step}

-- ---- the wanted, counted

abbrev counted : Bool → ℕ
counted t = cond t 1 0

pub some-wanted : (es : List Entry) (n : ℕ) → count_of 0 es ≡ suc n → first_wanted es < length es
unfolding count_of first_wanted
some-wanted [] n e = absurd (omega (arith, e))
some-wanted (x ∷ es) n e = step (eqb x.state 0) e (some-wanted es n)
  where
    step : (t : Bool) → counted t + count_of 0 es ≡ suc n → (count_of 0 es ≡ suc n → first_wanted es < length es) → cond t 0 (suc (first_wanted es)) < suc (length es)
    step true f more = omega arith
    step false f more = omega (arith, more (sym (zero-add (count_of 0 es)) ∙ f))

-- one of them delivered
pub one_fewer : (es : List Entry) (y : Entry) → y.state ≡ 1 → first_wanted es < length es → count_of 0 es ≡ suc (count_of 0 (set es (first_wanted es) y))
unfolding count_of first_wanted
one_fewer [] y e h = absurd (omega (arith, h))
one_fewer (x ∷ es) y e h = step (eqb x.state 0) refl h (one_fewer es y e)
  where
    not-wanted : eqb y.state 0 ≡ false
    not-wanted = ap (λ n. eqb n 0) e

    step : (t : Bool) → eqb x.state 0 ≡ t → cond t 0 (suc (first_wanted es)) < suc (length es)
        → (first_wanted es < length es → count_of 0 es ≡ suc (count_of 0 (set es (first_wanted es) y)))
        → counted t + count_of 0 es ≡ suc (count_of 0 (set (x ∷ es) (cond t 0 (suc (first_wanted es))) y))
    step true q f more = omega (arith, ap counted not-wanted)
    step false q f more = omega (arith, more (omega (arith, f)), ap counted q)

-- ---- the readings

in_range_lem : (f : List ℕ → ℤ) → ((x : List ℕ) → IsReading (f x)) → (xs : List (List ℕ)) → in_range (map f xs) ≡ true
unfolding in_range
in_range_lem f m [] = refl
in_range_lem f m (x ∷ xs) = rw (le-leb (nat_abs (f x)) 1048576 (m x)) (in_range_lem f m xs)

whole_block : (f : List ℕ → ℤ) (k : List ℕ) → length (map f (block k)) ≡ block_size k
whole_block f k = length-map (block k) f ∙ block-facts.size k

-- ---- where storage is long enough

module _ (z : Lengths) (l : Log) (enough : short z l.settings ≡ false) where
  none : first_cause (result_causes z true l) ≡ 0
  none = common_none z true l enough refl

  -- the first wanted block's delivery
  pub supply_clear : (P : Problem) → ReadingValued P → first_wanted l.entries < length l.entries → refusal_by z l (supply_call P l) ≡ 0
  unfolding supply_call refusal causes_of row deliver_causes
  supply_clear P measured wanted =
      deliver-fits z true l (map P.integrand (block (wanted_index l.entries))) none (wanted-yes l wanted)
      (whole_block P.integrand (wanted_index l.entries) ∙ sym (reading_facts.single l.settings (wanted_index l.entries))) (in_range_lem P.integrand measured (block (wanted_index l.entries)))

  -- a call that is not refused
  answer_clear : (c : Call) → refusal_by z l c ≡ 0 → answer_by z l c ≡ accepted_answer (passes_check z true l) (state_of l) (row c)
  unfolding answer_by answer_of state_of
  answer_clear c e = rw e refl

  pub supply-answer : (P : Problem) → ReadingValued P → first_wanted l.entries < length l.entries → answer_by z l (supply_call P l) ≡ answer accepted
  supply-answer P measured wanted = answer_clear (supply_call P l) (supply_clear P measured wanted) ∙ unfold supply_call accepted_answer row in refl

  -- choose, and a promotion
  module _ (free : length l.entries ≤ first_wanted l.entries) where
    choose-none : first_cause (choose_causes z true l) ≡ 0
    choose-none = choose_free z true l none (wanted_no l free)

    pub choose_clear : refusal_by z l choose ≡ 0
    unfolding refusal causes_of row choose_causes
    choose_clear = choose-none

    pub choose-answer : answer_by z l choose ≡ answer (chosen (choice.choose l))
    choose-answer = answer_clear choose choose_clear ∙ unfold accepted_answer row state_of in refl

    module _ (p : ℕ) (a : Active l.entries p) where
      pub promote_clear : refusal_by z l (promote p) ≡ 0
      unfolding refusal causes_of row promote_causes
      promote_clear = promote_active z true l p choose-none (place-facts.back l.entries p a)

      pub promote_answer : answer_by z l (promote p) ≡ answer (promotion (refining.promote_at l p).outcome)
      promote_answer = answer_clear (promote p) promote_clear ∙ unfold accepted_answer row state_of in refl

module _ (P : Problem) (x : LentCall) (m : Machine) (enough : short (lengths_lent x.part) m.log.settings ≡ false) where
  abbrev z : Lengths
  z = lengths_lent x.part

  abbrev l : Log
  l = m.log

  -- a call that is not refused
  step_clear : (c : Call) → refusal_by z l c ≡ 0 → x.call ≡ c → machine_step m x ≡ moved m c
  unfolding state_after
  step_clear c e is = ap (λ (d : Call). state_after z true m d) is ∙ rw e refl

  -- the first wanted block's delivery
  pub supply_step : ReadingValued P → first_wanted l.entries < length l.entries → x.call ≡ supply_call P l → machine_step m x ≡ supply P m
  supply_step measured wanted is = step_clear (supply_call P l) (supply_clear z l enough P measured wanted) is ∙ unfold supply_call effect_of row changed supply in refl

  -- choose leaves the state, and a promotion makes its step
  pub choose_step : length l.entries ≤ first_wanted l.entries → x.call ≡ choose → machine_step m x ≡ m
  choose_step free is = step_clear choose (choose_clear z l enough free) is ∙ unfold effect_of row changed in refl

  pub promote_step_lem : (p : ℕ) → length l.entries ≤ first_wanted l.entries → Active l.entries p → x.call ≡ promote p → machine_step m x ≡ steps.promote_step m p
  promote_step_lem p free a is = step_clear (promote p) (promote_clear z l enough free p a) is ∙ promote_effect m p
