-- Parts of records: of those that are well-formed, and the first of any.
-- Assumes nothing.
use mathlib.Core.Path.{◌≡◌, ap, sym, ◌∙◌, subst}
use mathlib.Core.Logic.{inl, inr}
use mathlib.Core.List.{List, ◌++◌}
use Prim.Native.Nat.{ℕ, ◌+◌, ◌-◌, ◌<◌, ◌≤◌}
use native.Mathlib.Omega.{arith}
use lib.ListN.{length, get_or, take, drop, length-append, length-drop, get_or-append}
use lib.Seq.{get_or-take, get_or-drop, get_or-append-add, length-take-le, take_all}
use Rattle.area.specs.declared.IndexRecord.{IndexRecord}
use Rattle.area.specs.Records.{blank}
use Rattle.quadrature.specs.Readings.{record_at}
use Rattle.encoding.specs.Encodes.{WellFormed}
use Rattle.std.proofs.lemmas.Bool.{cases_lt}

-- ---- parts of well-formed records

abbrev pub FormedAt : List IndexRecord → ℕ → Type 0
FormedAt rs p = (length (record_at rs p).levels ≡ 8) × (length (record_at rs p).links ≡ 16)

-- one record for another
pub at_same : (r s : IndexRecord) → r ≡ s → (length s.levels ≡ 8) × (length s.links ≡ 16) → (length r.levels ≡ 8) × (length r.links ≡ 16)
at_same r s e h = subst (λ (x : IndexRecord). (length x.levels ≡ 8) × (length x.links ≡ 16)) (sym e) h

-- what holds of each of the records holds of each of the first n
pub each_taken : (P : IndexRecord → Type 0) (n : ℕ) (rs : List IndexRecord) → ((p : ℕ) → p < length rs → P (record_at rs p)) → (p : ℕ) → p < length (take n rs) → P (record_at (take n rs) p)
each_taken P n rs f p q = elim (cases_lt (length rs) n) [ inl h ↦ whole (omega (arith, h)) | inr h ↦ front h ]
  where
    whole : length rs ≤ n → P (record_at (take n rs) p)
    whole h = let e = take_all n rs h in subst (λ (ts : List IndexRecord). P (record_at ts p)) (sym e) (f p (subst (λ (ts : List IndexRecord). p < length ts) e q))

    front : n ≤ length rs → P (record_at (take n rs) p)
    front h =
        let l : p < n = omega (arith, q, length-take-le n rs h) in
        subst P (sym (get_or-take n rs p blank l)) (f p (omega (arith, l, h)))

pub well_formed_take : (n : ℕ) (rs : List IndexRecord) → WellFormed rs → WellFormed (take n rs)
well_formed_take n rs f = each_taken (λ r. (length r.levels ≡ 8) × (length r.links ≡ 16)) n rs f

pub well_formed_drop : (n : ℕ) (rs : List IndexRecord) → WellFormed rs → WellFormed (drop n rs)
well_formed_drop n rs f p h = at_same (record_at (drop n rs) p) (record_at rs (n + p)) (get_or-drop n rs p blank) (f (n + p) (omega (arith, h, length-drop n rs)))

pub well_formed_append : (rs ss : List IndexRecord) → WellFormed rs → WellFormed ss → WellFormed (rs ++ ss)
well_formed_append rs ss f g p h = elim (cases_lt p (length rs)) [ inl l ↦ first l | inr l ↦ second l ]
  where
    first : p < length rs → FormedAt (rs ++ ss) p
    first l = at_same (record_at (rs ++ ss) p) (record_at rs p) (get_or-append rs ss blank p l) (f p l)

    second : length rs ≤ p → FormedAt (rs ++ ss) p
    second l =
        let e : length rs + (p - length rs) ≡ p = omega (arith, l) in
        at_same (record_at (rs ++ ss) p) (record_at ss (p - length rs)) (ap (λ k. get_or (rs ++ ss) k blank) (sym e) ∙ get_or-append-add rs ss (p - length rs) blank)
        (g (p - length rs) (omega (arith, h, l, length-append rs ss)))
