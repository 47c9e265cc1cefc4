-- The program chooses and promotes in turn, so that every place that it promotes is the one that choose answers.
-- The idea: it promotes only after choose has answered a place, and choose leaves the log.
-- Assumes nothing.
use mathlib.Core.Path.{◌≡◌, refl, ap, sym, ◌∙◌, subst}
use mathlib.Core.Logic.{inl}
use mathlib.Core.Bool.{Bool, true, false, cond}
use mathlib.Core.List.{List, [], ◌∷◌}
use Prim.Native.Nat.{ℕ, zero, suc, ◌+◌}
use native.Mathlib.Omega.{arith}
use lib.Dec.{leb, eqb}
use Rattle.area.specs.Log.{Log}
use Rattle.machine.specs.Log.{any_wanted}
use Rattle.machine.specs.Choose as choice
use Rattle.calls.specs.Replies.{refused, chosen}
use Rattle.calls.specs.Table.{Call, start, point, points, deliver, choose, promote, result, doubles, cross_total, check, Answer, answer, row, accepted_answer, refused_answer, answer_of}
use Rattle.history.specs.Logged.{state_of, refusal_by, log_step, answer_by}
use Rattle.history.specs.Promotions.{AllChosen}
use Rattle.history.specs.Source.{lend_all}
use Rattle.history.proofs.LogSteps.{log_facts}
use Rattle.history.proofs.Promotions.{chose}
use Rattle.jobfile.specs.Form.{entry_count}
use Rattle.jobfile.specs.File.{entry_of}
use Rattle.program_calls.specs.Calls.{own_part, own_lent, lent, entry_call, goes_on_with, goes_on, followed_by, chosen_place, promote_call, calls_from, InTurn, nothing, delivers, promotes, ends}

-- the program goes on after choose only if a place is chosen
only-place : (x : choice.Choice) → goes_on_with x ≡ true → x ≡ choice.place (chosen_place x)
unfolding goes_on_with chosen_place
only-place choice.met e = let z : ◌≡◌ {A = ℕ} 0 1 = cc in absurd (omega arith)
only-place choice.capped e = let z : ◌≡◌ {A = ℕ} 0 1 = cc in absurd (omega arith)
only-place (choice.place p) e = refl

-- where it goes on, choose answers that place
answers_place : (l : Log) → goes_on (answer_by own_lent l choose).reply ≡ true
    → (answer_by own_lent l choose ≡ answer (chosen (choice.place (chosen_place (choice.choose l))))) × (choice.choose l ≡ choice.place (chosen_place (choice.choose l)))
unfolding answer_by answer_of accepted_answer refused_answer row state_of goes_on
answers_place l = step (eqb (refusal_by own_lent l choose) 0)
  where
    place : choice.Choice
    place = choice.place (chosen_place (choice.choose l))

    step : (t : Bool) → goes_on (cond {A = Answer} t (answer (chosen (choice.choose l))) (answer (refused (refusal_by own_lent l choose)))).reply ≡ true
        → (cond {A = Answer} t (answer (chosen (choice.choose l))) (answer (refused (refusal_by own_lent l choose))) ≡ answer (chosen place)) × (choice.choose l ≡ place)
    step true e = let x = only-place (choice.choose l) e in (ap (λ y. answer (chosen y)) x, x)
    step false e = let z : ◌≡◌ {A = ℕ} 0 1 = cc in absurd (omega arith)

-- where it does not, choose answers none
answers_none : (l : Log) → goes_on (answer_by own_lent l choose).reply ≡ false → (p : ℕ) → answer_by own_lent l choose ≡ answer (chosen (choice.place p)) → ⊥
unfolding goes_on goes_on_with
answers_none l e p q =
    let clash : true ≡ false = ap (λ (y : Answer). goes_on y.reply) (sym q) ∙ e in let z : ◌≡◌ {A = ℕ} 0 1 = cc in omega arith

-- a call, and those that follow it
followed : (P : List Call → Type 0) (l : Log) (x : Call) (next : List Call) → (goes_on (answer_by own_lent l x).reply ≡ true → P (x ∷ next)) → (goes_on (answer_by own_lent l x).reply ≡ false → P (x ∷ []))
    → P (followed_by l x next)
unfolding followed_by
followed P l x next on off = step (goes_on (answer_by own_lent l x).reply) on off
  where
    step : (t : Bool) → (t ≡ true → P (x ∷ next)) → (t ≡ false → P (x ∷ [])) → P (x ∷ cond t next [])
    step true f g = f refl
    step false f g = g refl

module _ (c : List ℕ) where
  module _ (n : ℕ) (more : (l : Log) (i : ℕ) → InTurn l (calls_from c n l i)) (l : Log) (i : ℕ) where
    abbrev delivery : List Call
    delivery = followed_by l (entry_call c i) (calls_from c n (log_step l (lent (entry_call c i))) (i + 1))

    abbrev promotion : List Call
    promotion = followed_by l (promote_call l) (calls_from c n (log_step l (lent (promote_call l))) i)

    abbrev p : ℕ
    p = chosen_place (choice.choose l)

    delivering : any_wanted l.entries ≡ true → InTurn l delivery
    delivering w =
        followed (InTurn l) l (entry_call c i) (calls_from c n (log_step l (lent (entry_call c i))) (i + 1))
        (λ t. delivers (entry_of c i).readings (entry_of c i).indicator w (more (log_step l (lent (entry_call c i))) (i + 1)))
        (λ t. delivers (entry_of c i).readings (entry_of c i).indicator w nothing)

    promoting : any_wanted l.entries ≡ false → goes_on (answer_by own_lent l choose).reply ≡ true → InTurn l (choose ∷ promotion)
    promoting w t =
        let a = (answers_place l t).0 in
        followed (λ xs. InTurn l (choose ∷ xs)) l (promote_call l) (calls_from c n (log_step l (lent (promote_call l))) i) (λ u. promotes p w a (more (log_step l (lent (promote_call l))) i))
        (λ u. promotes p w a nothing)

    one_step : (t u : Bool) → any_wanted l.entries ≡ t → InTurn l (cond t (cond u [] delivery) (followed_by l choose promotion))
    one_step true true w = nothing
    one_step true false w = delivering w
    one_step false u w = followed (InTurn l) l choose promotion (promoting w) (λ t. ends w (answers_none l t))

  pub in_turn : (n : ℕ) (l : Log) (i : ℕ) → InTurn l (calls_from c n l i)
  unfolding calls_from
  in_turn zero l i = nothing
  in_turn (suc n) l i = one_step n (in_turn n) l i (any_wanted l.entries) (leb (entry_count c) i) refl

-- ---- so each promoted place is the one that choose answers

pub turn_chosen : (l : Log) (xs : List Call) → InTurn l xs → AllChosen l (lend_all own_part xs)
unfolding lend_all
turn_chosen l [] nothing = tt
turn_chosen l (deliver _ _ ∷ xs) (delivers rs i w more) = (
  inl (λ q e o. let z : ◌≡◌ {A = ℕ} 0 1 = cc in absurd (omega arith)),
  turn_chosen (log_step l (lent (deliver rs i))) xs more,
)
turn_chosen l (choose ∷ promote _ ∷ xs) (promotes at w a more) = (
  inl (λ q e o. let z : ◌≡◌ {A = ℕ} 0 1 = cc in absurd (omega arith)),
  subst (λ (o : Log). AllChosen o (lend_all own_part (promote at ∷ xs))) (sym (log_facts.after_choose l (lent choose) refl))
      (unfold lend_all in (inl (λ q e o. (chose own_lent l (choice.place at) a).1 ∙ ap choice.place (let r : at ≡ q = cc in r)), turn_chosen (log_step l (lent (promote at))) xs more)),
)
turn_chosen l (choose ∷ []) (ends w n) = (inl (λ q e o. let z : ◌≡◌ {A = ℕ} 0 1 = cc in absurd (omega arith)), tt)
-- no list of these calls is made in turn
turn_chosen l (start _ ∷ xs) m = elim m [ ]
turn_chosen l (point _ _ ∷ xs) m = elim m [ ]
turn_chosen l (points _ _ ∷ xs) m = elim m [ ]
turn_chosen l (choose ∷ (start _ ∷ xs)) m = elim m [ ]
turn_chosen l (choose ∷ (point _ _ ∷ xs)) m = elim m [ ]
turn_chosen l (choose ∷ (points _ _ ∷ xs)) m = elim m [ ]
turn_chosen l (choose ∷ (deliver _ _ ∷ xs)) m = elim m [ ]
turn_chosen l (choose ∷ (choose ∷ xs)) m = elim m [ ]
turn_chosen l (choose ∷ (result ∷ xs)) m = elim m [ ]
turn_chosen l (choose ∷ (doubles ∷ xs)) m = elim m [ ]
turn_chosen l (choose ∷ (cross_total ∷ xs)) m = elim m [ ]
turn_chosen l (choose ∷ (check ∷ xs)) m = elim m [ ]
turn_chosen l (promote _ ∷ xs) m = elim m [ ]
turn_chosen l (result ∷ xs) m = elim m [ ]
turn_chosen l (doubles ∷ xs) m = elim m [ ]
turn_chosen l (cross_total ∷ xs) m = elim m [ ]
turn_chosen l (check ∷ xs) m = elim m [ ]
