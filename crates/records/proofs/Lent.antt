-- A call on lent records is the call on their front, with the other records behind what it leaves.
-- The idea: fewer than 512 records are their own front; of more the first 512 are, and a call on these is a call on all.
-- Assumes nothing.
use mathlib.Core.Path.{◌≡◌, ap, sym, ◌∙◌}
use mathlib.Core.Logic.{inl, inr}
use mathlib.Core.List.{List, [], ◌++◌, append-nil}
use Prim.Native.Nat.{ℕ, ◌≤◌, min}
use native.Mathlib.Omega.{arith}
use lib.IntN.{ℤ}
use lib.ListN.{length, take, drop, take-append-drop, drop_of_length-le}
use lib.Seq.{take_all, length-take-le}
use Rattle.area.specs.declared.IndexRecord.{IndexRecord}
use Rattle.area.specs.declared.JobRecord.{JobRecord}
use Rattle.area.specs.Records.{Run, records_of, run_of}
use Rattle.area.specs.Encoding.{Area, area_of}
use Rattle.soundness.specs.Clauses.{checked}
use Rattle.calls.specs.Replies.{Reply}
use Rattle.calls.specs.Table.{Call}
use Rattle.calls.specs.Calls.{CallResult, call_on}
use Rattle.records.specs.Facts.{longer, call_result_longer}
use Rattle.records.specs.Lent.{area_on, call_result_on, over, front}
use Rattle.std.proofs.lemmas.Bool.{cases_lt}
use Rattle.records.proofs.Overs.{over-front_of}
use Rattle.records.proofs.Cuts.{alone}
use Rattle.records.proofs.Longer.{call-longer, checked-longer}

module _ (j : JobRecord) (rs : List IndexRecord) (s : List ℤ) (n : ℕ) (n_is : n ≡ min (length rs) 512) where
  abbrev all : Area
  all = area_on j rs s

  abbrev part : Area
  part = area_on j (take n rs) s

  whole : longer part (drop n rs) ≡ all
  whole = ap (λ (l : List IndexRecord). area_on j l s) (take-append-drop n rs)

  pub front_short : length (take n rs) ≡ n
  front_short = length-take-le n rs (omega (arith, n_is))

  room : 512 ≤ length rs → 512 ≤ length (take n rs)
  room h = omega (arith, front_short, n_is, h)

  few : length rs ≤ 512 → take n rs ≡ rs
  few h = take_all n rs (omega (arith, n_is, h))

  -- what only answers
  pub front_answers : {X : Type 0} (f : Area → X) → ((a : Area) (more : List IndexRecord) → 512 ≤ length a.run.records → f (longer a more) ≡ f a) → f part ≡ f all
  front_answers f same =
      elim (cases_lt (length rs) 512) [
        | inl h ↦ ap (λ (l : List IndexRecord). f (area_on j l s)) (few (omega (arith, h)))
        | inr h ↦ (sym (same part (drop n rs) (room h)) ∙ ap f whole)
      ]

  pub front-answer : (c : Call) → (call_on part c).answer ≡ (call_on all c).answer
  front-answer c = front_answers (λ (a : Area). (call_on a c).answer) (λ a more h. ap (λ (x : CallResult). x.answer) (call-longer a more h c))

  -- what also writes
  unlonger : (x : CallResult) → call_result_longer x [] ≡ x
  unlonger x = ap {B = CallResult} (λ (l : List IndexRecord). record { answer = x.answer; area = record { job = x.area.job; run = record { records = l; rest = x.area.run.rest }; store = x.area.store } }) (append-nil x.area.run.records)

  front_calls : (c : Call) → call_result_longer (call_on part c) (drop n rs) ≡ call_on all c
  front_calls c =
      elim (cases_lt (length rs) 512) [
        | inl h ↦ (ap (λ (l : List IndexRecord). call_result_longer (call_on part c) l) (drop_of_length-le rs (omega (arith, n_is, h)))
            ∙ unlonger (call_on part c)
            ∙ ap (λ (l : List IndexRecord). call_on (area_on j l s) c) (few (omega (arith, h))))
        | inr h ↦ (sym (call-longer part (drop n rs) (room h) c) ∙ ap (λ (a : Area). call_on a c) whole)
      ]

  pub front_leaves : (c : Call) (r : Reply) (j' : JobRecord) (x : List IndexRecord) (t : List ℤ) → call_result_on r j' x t ≡ call_on part c
      → call_result_on r j' (x ++ drop n rs) t ≡ call_on all c
  front_leaves c r j' x t is = ap (λ (y : CallResult). call_result_longer y (drop n rs)) is ∙ front_calls c

  -- the call on all leaves the first m records of cells over the lent ones, where that on the front leaves them over the front
  pub front_stored : (c : Call) (r : Reply) (j' : JobRecord) (w : List ℕ) (t : List ℤ) (l : List IndexRecord) (m : ℕ) → m ≤ n
      → call_result_on r j' (over m (records_of w) (take n rs)) t ≡ call_on part c → l ≡ over m (records_of w) rs → call_result_on r j' l t ≡ call_on all c
  front_stored c r j' w t l m small is put =
      ap (λ (x : List IndexRecord). call_result_on r j' x t) (put ∙ sym (over-front_of m n (records_of w) rs small (omega (arith, n_is))))
      ∙ front_leaves c r j' (over m (records_of w) (take n rs)) t is

-- what is answered on cells that hold the front of the records is answered on the records
on_cells : {X : Type 0} {n : ℕ} (f : Area → X) (j : JobRecord) (rs : List IndexRecord) (s : List ℤ) (ws cells : List ℕ)
    → ((a : Area) (more : List IndexRecord) → 512 ≤ length a.run.records → f (longer a more) ≡ f a)
    → n ≡ min (length rs) 512 → front n ws ≡ take n rs → run_of cells ≡ alone (front n ws) → f (area_of j cells s) ≡ f (area_on j rs s)
on_cells {n = n} f j rs s ws cells same n_is fronts runs =
    ap (λ (u : Run). f (record { job = j; run = u; store = s })) (runs ∙ ap alone fronts) ∙ front_answers j rs s n n_is f same

pub answer_on_cells : {n : ℕ} (j : JobRecord) (rs : List IndexRecord) (s : List ℤ) (ws cells : List ℕ) (c : Call)
    → n ≡ min (length rs) 512 → front n ws ≡ take n rs → run_of cells ≡ alone (front n ws) → (call_on (area_of j cells s) c).answer ≡ (call_on (area_on j rs s) c).answer
answer_on_cells j rs s ws cells c = on_cells (λ (a : Area). (call_on a c).answer) j rs s ws cells (λ a more h. ap (λ (x : CallResult). x.answer) (call-longer a more h c))

pub check_on_cells : {n : ℕ} (j : JobRecord) (rs : List IndexRecord) (s : List ℤ) (ws cells : List ℕ)
    → n ≡ min (length rs) 512 → front n ws ≡ take n rs → run_of cells ≡ alone (front n ws) → checked (area_of j cells s) ≡ checked (area_on j rs s)
check_on_cells j rs s ws cells = on_cells checked j rs s ws cells checked-longer
