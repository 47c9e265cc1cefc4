-- `promotion::select` meets its contract: the best of the places passed is kept. Assumes nothing.
use mathlib.Core.Path.{◌≡◌, sym, ap, ◌∙◌, subst}
use mathlib.Core.List.{List, ◌∷◌}
use Prim.Native.Nat.{ℕ, ◌+◌, ◌-◌, ◌<◌, ◌≤◌}
use native.Mathlib.Omega.{arith}
use lib.ListN.{length, drop, drop_of_length-le}
use Rattle.std.specs.Prelude.{unwrap_or}
use Rattle.area.specs.declared.IndexRecord.{IndexRecord}
use Rattle.area.specs.Entry.{Entry}
use Rattle.quadrature.specs.Readings.{record_at}
use Rattle.encoding.specs.Entries.{entry_at}
use Rattle.writing.specs.Heads.{heads_of}
use Rattle.promotion.proofs.Heads.{heads_length, head_state, head_indicator, heads_front}
use Rattle.promotion.proofs.Best.{Best, best_start, best_new, best_lower, best_other, best_end}
use Rattle.promotion.proofs.select.Goals as goal

module _ (rs : List IndexRecord) (place best top : ℕ) (inside : place ≤ length rs) (some : 1 ≤ place) (b : Best (heads_of rs) place best top) where
  abbrev es : List Entry
  es = heads_of rs

  front : drop (place - 1) es ≡ entry_at es (place - 1) ∷ drop place es
  front = heads_front rs (place - 1) (omega arith) ∙ ap (λ n. entry_at es (place - 1) ∷ drop n es) on
    where
      on : place - 1 + 1 ≡ place
      on = omega arith

  new : (i : ℕ) → (record_at rs (place - 1)).state ≡ 1 → i ≡ (record_at rs (place - 1)).indicator → top ≤ i → Best es (place - 1) (place - 1) i
  new i s e h =
      let is : (entry_at es (place - 1)).indicator ≡ i = head_indicator rs (place - 1) ∙ sym e in
      subst (Best es (place - 1) (place - 1)) is
      (best_new es place best top (entry_at es (place - 1)) front some b (head_state rs (place - 1) ∙ s) (omega (arith, is, h)))

  lower : (i : ℕ) → (record_at rs (place - 1)).state ≡ 1 → i ≡ (record_at rs (place - 1)).indicator → i < top → Best es (place - 1) best top
  lower i s e h =
      let is : (entry_at es (place - 1)).indicator ≡ i = head_indicator rs (place - 1) ∙ sym e in
      best_lower es place best top (entry_at es (place - 1)) front some b (head_state rs (place - 1) ∙ s) (omega (arith, is, h))

  other : ((record_at rs (place - 1)).state ≡ 1 → ⊥) → Best es (place - 1) best top
  other n = best_other es place best top (entry_at es (place - 1)) front some b (λ e. n (sym (head_state rs (place - 1)) ∙ e))

pub loop-place-init : goal.loop-place-init
loop-place-init c =
    let rs = c.args.held.now in (
      subst (λ n. Best (heads_of rs) c.len-place.result n 0) c.len-place.ensures
          (best_start (heads_of rs) c.len-place.result (drop_of_length-le (heads_of rs) (omega (arith, heads_length rs, c.len-place.ensures)))),
      search,
    )

pub loop-place-preserved-then-is_largest : goal.loop-place-preserved-then-is_largest
loop-place-preserved-then-is_largest c =
    let l = c.loop-place in
    let rs = c.args.held.now in (
      new rs l.place (unwrap_or l.best (length rs)) l.largest (omega (arith, c.len-place.ensures)) (omega arith) l.invariant.0 c.indicator-indicator.result
          (sym c.state.ensures ∙ c.if-state-eq-ACTIVE.true) c.indicator-indicator.ensures c.if-is_largest.true,
      omega (arith, c.len-place.ensures),
    )

pub loop-place-preserved-else-is_largest : goal.loop-place-preserved-else-is_largest
loop-place-preserved-else-is_largest c =
    let l = c.loop-place in
    let rs = c.args.held.now in (
      lower rs l.place (unwrap_or l.best (length rs)) l.largest (omega (arith, c.len-place.ensures)) (omega arith) l.invariant.0 c.indicator-indicator.result
          (sym c.state.ensures ∙ c.if-state-eq-ACTIVE.true) c.indicator-indicator.ensures c.if-is_largest.false,
      l.invariant.1,
    )

pub loop-place-preserved : goal.loop-place-preserved
loop-place-preserved c =
    let l = c.loop-place in
    let rs = c.args.held.now in
    (other rs l.place (unwrap_or l.best (length rs)) l.largest (omega (arith, c.len-place.ensures)) (omega arith) l.invariant.0 (λ e. c.if-state-eq-ACTIVE.false (c.state.ensures ∙ e)), l.invariant.1)

pub returns : goal.returns
returns c =
    let l = c.loop-place in
    let rs = c.args.held.now in
    let done : l.place ≡ 0 = omega arith in
    record {
      place = best_end (heads_of rs) (unwrap_or l.best (length rs)) l.largest (subst (λ n. Best (heads_of rs) n (unwrap_or l.best (length rs)) l.largest) done l.invariant.0);
      within = l.invariant.1;
    }
