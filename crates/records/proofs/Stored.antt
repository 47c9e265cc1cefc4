-- What a call stores back is what it changed: the records then held where it changed the area, and none where it did not.
-- The idea: no call writes a record past the last then held (`CallFacts.past`), and a refused and a spent one writes none.
-- Assumes nothing.
use mathlib.Core.Path.{◌≡◌, ap, sym, ◌∙◌, subst}
use mathlib.Core.Logic.{inl, inr}
use mathlib.Core.List.{List, ◌++◌}
use Prim.Native.Nat.{ℕ, ◌*◌, ◌≤◌, min}
use native.Mathlib.Omega.{arith}
use lib.IntN.{ℤ}
use lib.ListN.{length, take, drop, take-append-drop, drop_of_length-le}
use Rattle.area.specs.declared.IndexRecord.{IndexRecord}
use Rattle.area.specs.declared.JobRecord.{JobRecord}
use Rattle.area.specs.Records.{Run, records_of}
use Rattle.area.specs.Encoding.{Area, area_of}
use Rattle.machine.specs.Promote.{Outcome, promoted}
use Rattle.calls.specs.Replies.{Reply, refused, promotion}
use Rattle.calls.specs.Table.{Call, promote, answer}
use Rattle.calls.specs.Calls.{CallResult, call_on, call_result_of}
use Rattle.calls.proofs.Facts.{call_facts}
use Rattle.records.specs.Lent.{area_on, call_result_on, over, front}
use Rattle.std.proofs.lemmas.Bool.{cases_lt}
use Rattle.records.proofs.Overs.{over_of_front, over-front_of}
use Rattle.records.proofs.Cuts.{alone, cut_run, cut_after, cut_whole, front_length}
use Rattle.records.proofs.Lent.{front_short, front_leaves}

-- a promotion that is not promoted leaves the area
promote_idle : (a : Area) (p : ℕ) (o : Outcome) → (o ≡ promoted → ⊥) → (call_on a (promote p)).answer.reply ≡ promotion o → (call_on a (promote p)).area ≡ a
promote_idle a p o n e = call_facts.promote_unchanged a p (λ f. n (same o (sym e ∙ f)))
  where
    same : (o : Outcome) → promotion o ≡ promotion promoted → o ≡ promoted
    same o g = cc

-- a call on cells that hold the front of rs, the first n, and are then w with the cells behind as they were
module _ (j : JobRecord) (rs : List IndexRecord) (s : List ℤ) (n : ℕ) (ws w : List ℕ) (c : Call) (r : Reply) (j' : JobRecord) (t : List ℤ) (n_is : n ≡ min (length rs) 512)
    (count : length ws ≡ 13824) (fronts : front n ws ≡ take n rs) (same : length w ≡ length (take (n * 27) ws))
    (is : call_result_of r j' w t ≡ call_on (area_of j (take (n * 27) ws) s) c) where
  small : n ≤ 512
  small = omega (arith, n_is)

  abbrev part : Area
  part = area_on j (take n rs) s

  abbrev after : List ℕ
  after = w ++ drop (n * 27) ws

  -- the records that it leaves in the cells
  abbrev x : List IndexRecord
  x = front n after

  x_length : length x ≡ n
  x_length = front_length n after small (cut_whole n ws small count w same)

  on_front : call_result_on r j' x t ≡ call_on part c
  on_front =
      ap (λ (u : Run). record { answer = answer r; area = record { job = j'; run = u; store = t } }) (cut_after n ws small count w same)
      ∙ is
      ∙ ap (λ (u : Run). call_on (record { job = j; run = u; store = s }) c) (cut_run n ws small count ∙ ap alone fronts)

  on_all : call_result_on r j' (x ++ drop n rs) t ≡ call_on (area_on j rs s) c
  on_all = front_leaves j rs s n n_is c r j' x t on_front

  -- the area is left as it was
  kept : (call_on part c).area ≡ part → call_result_on r j' rs t ≡ call_on (area_on j rs s) c
  kept e =
      let x_is : x ≡ take n rs = ap (λ (y : CallResult). y.area.run.records) on_front ∙ ap (λ (b : Area). b.run.records) e in
      ap (λ (l : List IndexRecord). call_result_on r j' l t) (sym (ap (λ (l : List IndexRecord). l ++ drop n rs) x_is ∙ take-append-drop n rs)) ∙ on_all

  -- the records then held are all that changed
  held_past : drop j'.held x ≡ drop j'.held (take n rs)
  held_past = subst (λ (y : CallResult). drop y.area.job.held y.area.run.records ≡ drop y.area.job.held (take n rs)) (sym on_front) (call_facts.past part c).records

  past_all : drop (min j'.held n) x ≡ drop (min j'.held n) (take n rs)
  past_all =
      elim (cases_lt j'.held n) [
        | inl h ↦ (let e : min j'.held n ≡ j'.held = omega (arith, h) in rw (e, held_past))
        | inr h ↦ (drop_of_length-le x (omega (arith, h, x_length)) ∙ sym (drop_of_length-le (take n rs) (omega (arith, h, front_short j rs s n n_is))))
      ]

  held_stored : over (min j'.held n) (records_of after) rs ≡ x ++ drop n rs
  unfolding over front
  held_stored =
      let k : min j'.held n ≤ n = omega arith in
      sym (over_of_front (min j'.held n) n (records_of after) rs k)
      ∙ sym (over-front_of (min j'.held n) n x rs k (omega (arith, n_is)))
      ∙ ap (λ l. l ++ drop n rs) (ap (λ l. take (min j'.held n) x ++ l) (sym past_all) ∙ take-append-drop (min j'.held n) x)

  pub stored_held : (l : List IndexRecord) → l ≡ over (min j'.held n) (records_of after) rs → call_result_on r j' l t ≡ call_on (area_on j rs s) c
  stored_held l e = ap (λ (l : List IndexRecord). call_result_on r j' l t) (e ∙ held_stored) ∙ on_all

module _ (j : JobRecord) (rs : List IndexRecord) (s : List ℤ) (n : ℕ) (ws w : List ℕ) (j' : JobRecord) (t : List ℤ) (n_is : n ≡ min (length rs) 512)
    (count : length ws ≡ 13824) (fronts : front n ws ≡ take n rs) (same : length w ≡ length (take (n * 27) ws)) where
  pub refused_none : (c : Call) (m : ℕ) → call_result_of (refused m) j' w t ≡ call_on (area_of j (take (n * 27) ws) s) c → call_result_on (refused m) j' rs t ≡ call_on (area_on j rs s) c
  refused_none c m is =
      kept j rs s n ws w c (refused m) j' t n_is count fronts same is
      (call_facts.refused_keeps (area_on j (take n rs) s) c m (sym (ap (λ (y : CallResult). y.answer.reply) (on_front j rs s n ws w c (refused m) j' t n_is count fronts same is)))).0

  pub spent_none : (p : ℕ) (o : Outcome) → (o ≡ promoted → ⊥) → call_result_of (promotion o) j' w t ≡ call_on (area_of j (take (n * 27) ws) s) (promote p)
      → call_result_on (promotion o) j' rs t ≡ call_on (area_on j rs s) (promote p)
  spent_none p o spent is =
      kept j rs s n ws w (promote p) (promotion o) j' t n_is count fronts same is
      (promote_idle (area_on j (take n rs) s) p o spent (sym (ap (λ (y : CallResult). y.answer.reply) (on_front j rs s n ws w (promote p) (promotion o) j' t n_is count fronts same is))))
