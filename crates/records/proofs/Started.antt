-- Start depends on how many records are lent and not on what they hold, and changes the one record that is then held.
-- The idea: on any two runs of one length start goes the same way; refused it stores nothing, accepted the records of the new state.
-- Assumes nothing.
use mathlib.Core.Path.{◌≡◌, refl, ap, sym, ◌∙◌}
use mathlib.Core.Bool.{Bool, true, false, cond}
use mathlib.Core.List.{List, [], ◌++◌}
use Prim.Native.Nat.{ℕ, ◌*◌, ◌≤◌, min}
use native.Mathlib.Omega.{arith}
use lib.Dec.{eqb}
use lib.IntN.{ℤ}
use lib.ListN.{length, take, drop, take-append-drop, length-append, length-drop}
use lib.Seq.{take_at}
use Rattle.area.specs.declared.IndexRecord.{IndexRecord}
use Rattle.area.specs.declared.JobRecord.{JobRecord}
use Rattle.area.specs.declared.Settings.{Settings}
use Rattle.area.specs.Entry.{Entry}
use Rattle.area.specs.Records.{Run, records_of}
use Rattle.area.specs.Encoding.{area_of, records_for, encoded_from, run_with, store_with, job_with, written}
use Rattle.machine.specs.Causes.{first_cause, start_causes}
use Rattle.machine.specs.Steps.{started}
use Rattle.std.specs.Prelude.{Result, Ok, Err, is_ok, ⊤}
use Rattle.calls.specs.declared.cause.Cause.{Cause}
use Rattle.calls.specs.Cause.{number_of_cause}
use Rattle.calls.specs.Replies.{Reply, refused, accepted, reply_of}
use Rattle.calls.specs.Table.{start, answer, row, causes_of, effect_of, accepted_answer, refused_answer, refusal}
use Rattle.calls.specs.Calls.{CallResult, area_after, refusal_on, call_on, call_result_of}
use Rattle.calls.proofs.CauseCases.{accepted_call, refused_call, either}
use Rattle.records.specs.Lent.{area_on, call_result_on, over, front}
use Rattle.records.proofs.Overs.{over_of_front, over-front_of}
use Rattle.records.proofs.Cuts.{cut_run, cut_after, cut_whole, front_length}
use Rattle.records.proofs.Lent.{front_short, front_leaves}

module _ (j : JobRecord) (g : Settings) (s : List ℤ) where
  abbrev entries : List Entry
  entries = (started g).log.entries

  abbrev first : List IndexRecord
  first = records_for g entries

  first-length : length first ≡ length entries
  unfolding records_for encoded_from started
  first-length = refl

  abbrev number : List IndexRecord → ℕ
  number rs = refusal_on (area_on j rs s) (start g)

  number_same : (rs rs' : List IndexRecord) → length rs ≡ length rs' → number rs ≡ number rs'
  unfolding refusal causes_of row
  number_same rs rs' e = ap (λ (k : ℕ). first_cause (start_causes (record { records = k; readings = length s }) g)) e

  -- an accepted start
  abbrev begun : List IndexRecord → CallResult
  begun rs =
      record {
        answer = answer accepted;
        area = record { job = job_with (started g); run = record { records = first ++ drop (length entries) rs; rest = [] }; store = store_with s entries };
      }

  begun_is : (rs : List IndexRecord) → accepted_call (area_on j rs s) (start g) ≡ begun rs
  unfolding accepted_answer effect_of row area_after written run_with started
  begun_is rs = refl

  -- a refused one
  abbrev kept : ℕ → List IndexRecord → CallResult
  kept m rs = record { answer = answer (refused m); area = area_on j rs s }

  kept_is : (m : ℕ) (rs : List IndexRecord) → refused_call (area_on j rs s) (start g) m ≡ kept m rs
  unfolding refused_answer row
  kept_is m rs = refl

  either_way : (rs : List IndexRecord) (m : ℕ) → number rs ≡ m → call_on (area_on j rs s) (start g) ≡ cond (eqb m 0) (begun rs) (kept m rs)
  either_way rs m e =
      either (area_on j rs s) (start g)
      ∙ (λ i. cond (eqb (number rs) 0) (begun_is rs i) (kept_is (number rs) rs i))
      ∙ ap (λ (k : ℕ). cond (eqb k 0) (begun rs) (kept k rs)) e

  -- start left x of records rs; bs are as many
  module _ (rs bs x : List IndexRecord) (j' : JobRecord) (as_many : length rs ≡ length bs) where
    -- refused
    refused_over : (q : ℕ) → call_result_on (refused q) j' x s ≡ call_on (area_on j rs s) (start g) → call_result_on (refused q) j' bs s ≡ call_on (area_on j bs s) (start g)
    refused_over q is = go (eqb (number bs) 0) (is ∙ either_way rs (number bs) (number_same rs bs as_many)) ∙ sym (either_way bs (number bs) refl)
      where
        go : (b : Bool) → call_result_on (refused q) j' x s ≡ cond b (begun rs) (kept (number bs) rs) → call_result_on (refused q) j' bs s ≡ cond b (begun bs) (kept (number bs) bs)
        go true e = let z : refused q ≡ accepted = ap (λ (y : CallResult). y.answer.reply) e in cc
        go false e = λ i. record { answer = (e i).answer; area = area_on (e i).area.job bs s }

    -- accepted: the records of the new state
    module _ (e : call_result_on accepted j' x s ≡ begun rs) (lx : length x ≡ length bs) where
      held_is : j'.held ≡ length entries
      unfolding job_with
      held_is = ap (λ (y : CallResult). y.area.job.held) e

      x_is : x ≡ first ++ drop (length entries) rs
      x_is = ap (λ (y : CallResult). y.area.run.records) e

      stored_is : min j'.held (length bs) ≡ length entries
      stored_is =
          let h : length x ≡ length (first ++ drop (length entries) rs) = ap length x_is in
          omega (arith, held_is, h, length-append first (drop (length entries) rs), length-drop (length entries) rs, first-length, as_many, lx)

      over_is : over (min j'.held (length bs)) x bs ≡ first ++ drop (length entries) bs
      unfolding over
      over_is =
          ap (λ (k : ℕ). take k x ++ drop k bs) stored_is
          ∙ ap (λ (l : List IndexRecord). take (length entries) l ++ drop (length entries) bs) x_is
          ∙ ap (λ (l : List IndexRecord). l ++ drop (length entries) bs) (take_at first (drop (length entries) rs) (length entries) first-length)

      all : call_result_on accepted j' (over (min j'.held (length bs)) x bs) s ≡ begun bs
      all = λ i. record { answer = (e i).answer; area = record { job = (e i).area.job; run = record { records = over_is i; rest = [] }; store = (e i).area.store } }

    accepted_over : call_result_on accepted j' x s ≡ call_on (area_on j rs s) (start g) → length x ≡ length bs
        → call_result_on accepted j' (over (min j'.held (length bs)) x bs) s ≡ call_on (area_on j bs s) (start g)
    accepted_over is lx = go (eqb (number bs) 0) (is ∙ either_way rs (number bs) (number_same rs bs as_many)) ∙ sym (either_way bs (number bs) refl)
      where
        go : (b : Bool) → call_result_on accepted j' x s ≡ cond b (begun rs) (kept (number bs) rs)
            → call_result_on accepted j' (over (min j'.held (length bs)) x bs) s ≡ cond b (begun bs) (kept (number bs) bs)
        go true e = all e lx
        go false e = let z : accepted ≡ refused (number bs) = ap (λ (y : CallResult). y.answer.reply) e in cc

-- start on cells with room for as many of the records as a job can hold, whatever they hold; the cells are then w, and those behind as they were
module _ (j : JobRecord) (rs : List IndexRecord) (s : List ℤ) (n : ℕ) (ws w : List ℕ) (g : Settings) (j' : JobRecord) (n_is : n ≡ min (length rs) 512) (count : length ws ≡ 13824)
    (same : length w ≡ length (take (n * 27) ws)) where
  small : n ≤ 512
  small = omega (arith, n_is)

  abbrev after : List ℕ
  after = w ++ drop (n * 27) ws

  as_many : length (front n ws) ≡ length (take n rs)
  as_many = omega (arith, front_length n ws small count, front_short j rs s n n_is)

  on_front : (r : Reply) → call_result_of r j' w s ≡ call_on (area_of j (take (n * 27) ws) s) (start g) → call_result_on r j' (front n after) s ≡ call_on (area_on j (front n ws) s) (start g)
  on_front r is =
      ap (λ (u : Run). record { answer = answer r; area = record { job = j'; run = u; store = s } }) (cut_after n ws small count w same)
      ∙ is
      ∙ ap (λ (u : Run). call_on (record { job = j; run = u; store = s }) (start g)) (cut_run n ws small count)

  pub start_refused : (q : ℕ) → call_result_of (refused q) j' w s ≡ call_on (area_of j (take (n * 27) ws) s) (start g) → call_result_on (refused q) j' rs s ≡ call_on (area_on j rs s) (start g)
  start_refused q is =
      ap (λ (l : List IndexRecord). call_result_on (refused q) j' l s) (sym (take-append-drop n rs))
      ∙ front_leaves j rs s n n_is (start g) (refused q) j' (take n rs) s (refused_over j g s (front n ws) (take n rs) (front n after) j' as_many q (on_front (refused q) is))

  pub start_accepted : (l : List IndexRecord) → call_result_of accepted j' w s ≡ call_on (area_of j (take (n * 27) ws) s) (start g) → l ≡ over (min j'.held n) (records_of after) rs
      → call_result_on accepted j' l s ≡ call_on (area_on j rs s) (start g)
  unfolding front
  start_accepted l is e =
      let k : min j'.held n ≤ n = omega arith in
      let lt : length (take n rs) ≡ n = front_short j rs s n n_is in
      ap (λ (l : List IndexRecord). call_result_on accepted j' l s)
      (e ∙ sym (over_of_front (min j'.held n) n (records_of after) rs k)
      ∙ sym (over-front_of (min j'.held n) n (front n after) rs k (omega (arith, n_is)))
      ∙ ap (λ m. over (min j'.held m) (front n after) (take n rs) ++ drop n rs) (sym lt))
      ∙ front_leaves j rs s n n_is (start g) accepted j' (over (min j'.held (length (take n rs))) (front n after) (take n rs)) s
      (accepted_over j g s (front n ws) (take n rs) (front n after) j' as_many (on_front accepted is) (omega (arith, lt, front_length n after small (cut_whole n ws small count w same))))

  none_over : (xs ys : List IndexRecord) → over (min 0 n) xs ys ≡ ys
  unfolding over
  none_over xs ys = let none : min 0 n ≡ 0 = omega arith in ap (λ m. take m xs ++ drop m ys) none

  -- and whichever it is, so many records are stored back
  pub start_either : (r : Result ⊤ Cause) (l : List IndexRecord) (k : ℕ) → call_result_of (reply_of r) j' w s ≡ call_on (area_of j (take (n * 27) ws) s) (start g)
      → k ≡ cond (is_ok r) j'.held 0 → l ≡ over (min k n) (records_of after) rs → call_result_on (reply_of r) j' l s ≡ call_on (area_on j rs s) (start g)
  start_either (Ok u) l k is kept e = start_accepted l is (e ∙ ap (λ m. over (min m n) (records_of after) rs) kept)
  start_either (Err d) l k is kept e =
      ap (λ (x : List IndexRecord). call_result_on (refused (number_of_cause d)) j' x s) (e ∙ ap (λ m. over (min m n) (records_of after) rs) kept ∙ none_over (records_of after) rs)
      ∙ start_refused (number_of_cause d) is
