-- `area::pack` meets its contract: the word so far is that of the axes passed, all of which fit. Assumes nothing.
use Rattle.std.proofs.Common.{rules, ◌≡◌, ◌+◌, ◌-◌, ◌*◌, ◌^◌, ◌<◌, ◌≤◌, ℕ, List, length, drop, sym, ap, ◌∙◌, refl, subst, arith}
use Rattle.std.proofs.lemmas.Option.{none-some, same_Some}
use Rattle.std.specs.Prelude.{Result, Ok, Err, Some, None, OkIff}
use Rattle.std.specs.Result.{result_ok}
use Rattle.grid.specs.Index.{level}
use Rattle.area.specs.Packed.{packed, FitsByte, packing_of}
use Rattle.area.proofs.Packs.{pack_facts, larger-not, packed_step, fits_step, step_room, none_passed, all_passed}
use Rattle.area.proofs.pack.Goals as goal

-- one axis more, n of them left with it
module _ (k : List ℕ) (n word : ℕ) (eight : length k ≡ 8) (some : 0 < n) (inside : n ≤ 8) (is : word ≡ packed (drop n k)) (fit : FitsByte (drop n k)) where
  on : n - 1 + 1 ≡ n
  on = omega arith

  before : FitsByte (drop (n - 1 + 1) k)
  before = subst (λ m. FitsByte (drop m k)) (sym on) fit

  is_before : word ≡ packed (drop (n - 1 + 1) k)
  is_before = is ∙ ap (λ m. packed (drop m k)) (sym on)

  room : word * 256 + 255 < 2 ^ 64
  room = subst (λ w. w * 256 + 255 < 2 ^ 64) (sym is_before) (step_room k (n - 1) (omega (arith, eight)) eight before)

  next : word * 256 + level k (n - 1) ≡ packed (drop (n - 1) k)
  next = ap (λ w. w * 256 + level k (n - 1)) is_before ∙ sym (packed_step k (n - 1) (omega (arith, eight)))

  next_fit : level k (n - 1) < 256 → FitsByte (drop (n - 1) k)
  next_fit l = fits_step k (n - 1) (omega (arith, eight)) l before

-- what a level is, as a byte or too large for one
module _ {E : Type 0} (x : ℕ) where
  byte_is : (r : Result ℕ E) (b : ℕ) → OkIff r (x < 256) x → Some b ≡ result_ok r → (x < 256) × (b ≡ x)
  byte_is (Ok y) b h e = (h.0, same_Some b y e ∙ h.1)
  byte_is (Err d) b h e = absurd (none-some b (sym e))

  no_byte : (r : Result ℕ E) → OkIff r (x < 256) x → None ≡ result_ok r → 255 < x
  no_byte (Ok y) h e = absurd (none-some y e)
  no_byte (Err d) h e = omega (arith, h)

pub loop-axis-init : goal.loop-axis-init
loop-axis-init c = let p = none_passed c.args.levels (search rules) in record { word_is = p.0; fit = p.1 }

pub returns-in_err-byte : goal.returns-in_err-byte
unfolding packing_of
returns-in_err-byte c =
    let l = c.loop-axis in
    let eight : length c.args.levels ≡ 8 = search rules in
    let larger = no_byte (level c.args.levels (l.axis - 1)) c.try_from.result c.try_from.ensures c.in_err-byte.ensures.value in
    rw (c.from_residual.ensures, larger-not c.args.levels (l.axis - 1) (omega (arith, eight, c.loop-axis-test.true, l.auto.axis)) larger) refl

pub overflow_mul-word : goal.overflow_mul-word
overflow_mul-word c =
    let l = c.loop-axis in
    omega (arith, room c.args.levels l.axis l.word (search rules) c.loop-axis-test.true l.auto.axis l.invariant.word_is l.invariant.fit)

pub overflow_add-word : goal.overflow_add-word
overflow_add-word c =
    let l = c.loop-axis in
    let b = byte_is (level c.args.levels (l.axis - 1)) c.try_from.result c.in_ok-byte.byte c.try_from.ensures c.in_ok-byte.ensures.value in
    omega (arith, c.from.ensures, b.0, b.1, room c.args.levels l.axis l.word (search rules) c.loop-axis-test.true l.auto.axis l.invariant.word_is l.invariant.fit)

pub loop-axis-preserved : goal.loop-axis-preserved
loop-axis-preserved c =
    let l = c.loop-axis in
    let eight : length c.args.levels ≡ 8 = search rules in
    let b = byte_is (level c.args.levels (l.axis - 1)) c.try_from.result c.in_ok-byte.byte c.try_from.ensures c.in_ok-byte.ensures.value in
    record {
      word_is = ap (λ x. l.word * 256 + x) (c.from.ensures ∙ b.1) ∙ next c.args.levels l.axis l.word eight c.loop-axis-test.true l.auto.axis l.invariant.word_is l.invariant.fit;
      fit = next_fit c.args.levels l.axis l.word eight c.loop-axis-test.true l.auto.axis l.invariant.word_is l.invariant.fit b.0;
    }

pub returns : goal.returns
unfolding packing_of
returns c =
    let k = c.args.levels in
    let l = c.loop-axis in
    let end : l.axis ≡ 0 = omega (arith, c.loop-axis-test.false) in
    let all : drop l.axis k ≡ k = ap (λ n. drop n k) end ∙ all_passed k in
    rw ((pack_facts.tested k).1 (subst FitsByte all l.invariant.fit)) (ap Some (l.invariant.word_is ∙ ap packed all))
