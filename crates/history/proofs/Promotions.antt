-- The list of the indices made old, call by call; and what the answers of choose and of promote by the log tell.
-- The idea: read the step off.
-- Assumes nothing.
use mathlib.Core.Path.{◌≡◌, refl, ap, ◌∙◌}
use mathlib.Core.Bool.{Bool, true, false, cond}
use mathlib.Core.List.{List}
use Prim.Native.Nat.{ℕ}
use native.Mathlib.Omega.{arith}
use borrow.Author.Tests.{eqb-true, ne_eqb}
use lib.Dec.{eqb}
use Rattle.area.specs.declared.Settings.{Settings}
use Rattle.area.specs.Log.{Log}
use Rattle.encoding.specs.Entries.{entry_at}
use Rattle.machine.specs.Log.{Active}
use Rattle.machine.specs.Choose as choice
use Rattle.machine.specs.Promote as refining
use Rattle.machine.specs.Causes.{Lengths, promote_causes}
use Rattle.calls.specs.Replies.{refused, chosen, promotion}
use Rattle.calls.specs.Table.{Call, start, point, points, deliver, choose, promote, result, doubles, cross_total, check, Answer, answer, row, causes_of, accepted_answer, refused_answer, refusal, answer_of}
use Rattle.calls.proofs.Accepted.{promotable}
use Rattle.history.specs.LentCalls.{LentCall, lengths_lent}
use Rattle.history.specs.Logged.{state_of, refusal_by, answer_by, AcceptedBy}
use Rattle.history.specs.Promotions.{with_promoted, promotions_by, promotions_step, PromotionsFacts}

-- a choose that answers a choice is not refused, and has it
pub chose : (z : Lengths) (l : Log) (o : choice.Choice) → answer_by z l choose ≡ answer (chosen o) → (refusal_by z l choose ≡ 0) × (choice.choose l ≡ o)
unfolding answer_by answer_of accepted_answer refused_answer row state_of
chose z l o e = step (eqb (refusal z true l choose) 0) refl e
  where
    step : (t : Bool) → eqb (refusal z true l choose) 0 ≡ t
        → cond {A = Answer} t (answer (chosen (choice.choose l))) (answer (refused (refusal z true l choose))) ≡ answer (chosen o)
        → (refusal z true l choose ≡ 0) × (choice.choose l ≡ o)
    step true q f = let k : chosen (choice.choose l) ≡ chosen o = ap (λ (v : Answer). v.reply) f in (eqb-true (refusal z true l choose) 0 q, cc)
    step false q f =
        let k : refused (refusal z true l choose) ≡ chosen o = ap (λ (v : Answer). v.reply) f in
        let y : ◌≡◌ {A = ℕ} 0 1 = cc in
        absurd (omega arith)

-- a promote that answers an outcome is not refused, and has it
pub answered : (z : Lengths) (l : Log) (p : ℕ) (o : refining.Outcome) → answer_by z l (promote p) ≡ answer (promotion o) → (refusal_by z l (promote p) ≡ 0) × ((refining.promote_at l p).outcome ≡ o)
unfolding answer_by answer_of accepted_answer refused_answer row state_of
answered z l p o e = step (eqb (refusal z true l (promote p)) 0) refl e
  where
    step : (t : Bool) → eqb (refusal z true l (promote p)) 0 ≡ t
        → cond {A = Answer} t (answer (promotion (refining.promote_at l p).outcome)) (answer (refused (refusal z true l (promote p)))) ≡ answer (promotion o)
        → (refusal z true l (promote p) ≡ 0) × ((refining.promote_at l p).outcome ≡ o)
    step true q f = let k : promotion (refining.promote_at l p).outcome ≡ promotion o = ap (λ (v : Answer). v.reply) f in (eqb-true (refusal z true l (promote p)) 0 q, cc)
    step false q f =
        let k : refused (refusal z true l (promote p)) ≡ promotion o = ap (λ (v : Answer). v.reply) f in
        let y : ◌≡◌ {A = ℕ} 0 1 = cc in
        absurd (omega arith)

-- and one that is not refused and has an outcome answers it
pub answers_so : (z : Lengths) (l : Log) (p : ℕ) (o : refining.Outcome) → refusal_by z l (promote p) ≡ 0 → (refining.promote_at l p).outcome ≡ o → answer_by z l (promote p) ≡ answer (promotion o)
unfolding answer_by answer_of accepted_answer row state_of
answers_so z l p o e f = rw e (ap (λ x. answer (promotion x)) f)

-- its place is an active index's
pub accepted_active : (z : Lengths) (l : Log) (p : ℕ) → refusal_by z l (promote p) ≡ 0 → Active l.entries p
unfolding refusal causes_of row promote_causes
accepted_active z l p e = (promotable z true l p e).active

-- ---- the list's step

pub accepted_list : (l : Log) (is : List (List ℕ)) (x : LentCall) (c : Call) → x.call ≡ c → AcceptedBy l x → promotions_step l is x ≡ promotions_by l c is
unfolding promotions_step
accepted_list l is x c e none = rw none (ap (λ (d : Call). promotions_by l d is) e)

refused_list : (l : Log) (is : List (List ℕ)) (x : LentCall) → (AcceptedBy l x → ⊥) → promotions_step l is x ≡ is
unfolding promotions_step
refused_list l is x f = ap (λ (t : Bool). cond t (promotions_by l x.call is) is) (ne_eqb (refusal_by (lengths_lent x.part) l x.call) 0 f)

outcome_list : (l : Log) (is : List (List ℕ)) (x : LentCall) (p : ℕ) (o : refining.Outcome) → x.call ≡ promote p → answer_by (lengths_lent x.part) l (promote p) ≡ answer (promotion o)
    → promotions_step l is x ≡ with_promoted o (entry_at l.entries p).levels is
unfolding promotions_by
outcome_list l is x p o e f =
    let y = answered (lengths_lent x.part) l p o f in
    accepted_list l is x (promote p) e (ap (refusal_by (lengths_lent x.part) l) e ∙ y.0)
    ∙ ap (λ (q : refining.Outcome). with_promoted q (entry_at l.entries p).levels is) y.1

-- a call that is neither a start nor a promotion
neither : (l : Log) (is : List (List ℕ)) (c : Call) → ((g : Settings) → c ≡ start g → ⊥) → ((p : ℕ) → c ≡ promote p → ⊥) → promotions_by l c is ≡ is
unfolding promotions_by
neither l is (start g) f h = absurd (f g refl)
neither l is (point n buffer) f h = refl
neither l is (points n buffer) f h = refl
neither l is (deliver rs i) f h = refl
neither l is choose f h = refl
neither l is (promote p) f h = absurd (h p refl)
neither l is result f h = refl
neither l is doubles f h = refl
neither l is cross_total f h = refl
neither l is check f h = refl

other_list : (l : Log) (is : List (List ℕ)) (x : LentCall) → ((g : Settings) → x.call ≡ start g → ⊥) → ((p : ℕ) → x.call ≡ promote p → ⊥) → promotions_step l is x ≡ is
unfolding promotions_step
other_list l is x f h = split (eqb (refusal_by (lengths_lent x.part) l x.call) 0)
  where
    split : (t : Bool) → cond t (promotions_by l x.call is) is ≡ is
    split true = neither l is x.call f h
    split false = refl

pub promotions_facts : PromotionsFacts
promotions_facts =
    record {
      accepted_start = λ l is x g e none. accepted_list l is x (start g) e none ∙ unfold promotions_by in refl;
      promoted = λ l is x p e f. outcome_list l is x p refining.promoted e f ∙ unfold with_promoted in refl;
      spent = λ l is x p e f. outcome_list l is x p refining.spent e f ∙ unfold with_promoted in refl;
      refused = refused_list;
      other = other_list;
    }
