-- The whole test, part by part, as the code asks it; the held records are those of the first cells.
-- Assumes nothing.
use mathlib.Core.Path.{◌≡◌, refl, ap, ap₂, ◌∙◌, sym}
use mathlib.Core.Bool.{Bool, true, false, cond, ◌&&◌}
use mathlib.Core.List.{List}
use Prim.Native.Nat.{ℕ, zero, suc, ◌+◌, ◌*◌, ◌/◌, ◌<◌, ◌≤◌}
use native.Mathlib.Omega.{arith}
use lib.Dec.{eqb}
use lib.IntN.{ℤ}
use lib.ListN.{length}
use Rattle.sums.specs.Sums.{nat_sum_to}
use Rattle.grid.specs.Index.{Index, at_ceiling}
use Rattle.grid.proofs.Ceilings.{ceiling_facts}
use Rattle.area.specs.declared.IndexRecord.{IndexRecord}
use Rattle.area.specs.declared.JobRecord.{JobRecord}
use Rattle.area.specs.Records.{held_in}
use Rattle.area.specs.Encoding.{Area, area_of}
use Rattle.area.proofs.Records.{length-records_of}
use Rattle.quadrature.specs.Readings.{record_at}
use Rattle.soundness.specs.Held.{levels_at, state_at}
use Rattle.soundness.specs.Clauses.{checked}
use Rattle.soundness.specs.Test.{places_test}
use Rattle.soundness.specs.Totals.{carried_in, delivered_count, job_test, held_test, area_test}
use Rattle.soundness.proofs.Totals.{Job, reads_job}
use Rattle.soundness.proofs.Exactly.{same_answer}
use Rattle.soundness.proofs.Clauses.{clause_facts}
use Rattle.soundness.proofs.Facts.{link_check_facts}
use Rattle.checking.proofs.Sums.{each_at_most}
use Rattle.checking.proofs.Passes.{place_within, place_beyond}
use Rattle.checking.proofs.Ceilings.{axes_alike}

-- ---- the held records
at_most_one : (b : Bool) → cond b 0 1 ≤ 1
at_most_one true = omega arith
at_most_one false = omega arith

pub count_small : (rs : List IndexRecord) → delivered_count rs ≤ length rs
unfolding delivered_count
count_small rs = omega (arith, each_at_most (length rs) 1 (λ p. cond (eqb (state_at rs p) 0) 0 1) (λ p h. at_most_one (eqb (state_at rs p) 0)))

-- where each index is at a ceiling among eight axes just if it is among d, the carried errors are the same
carried_alike : (d : ℕ) (rs : List IndexRecord) → ((p : ℕ) → p < length rs → at_ceiling 8 (levels_at rs p) ≡ at_ceiling d (levels_at rs p)) → carried_in 8 rs ≡ carried_in d rs
unfolding carried_in nat_sum_to
carried_alike d rs alike = same (length rs) (λ p h. h)
  where
    part : ℕ → ℕ → ℕ
    part e p = cond (eqb (state_at rs p) 2 && at_ceiling e (levels_at rs p)) (record_at rs p).indicator 0

    same : (n : ℕ) → ((p : ℕ) → p < n → p < length rs) → nat_sum_to n (part 8) ≡ nat_sum_to n (part d)
    same zero h = refl
    same (suc n) h =
        ap₂ (λ x y. x + y) (same n (λ p l. h p (omega (arith, l))))
        (ap (λ t. cond (eqb (state_at rs n) 2 && t) (record_at rs n).indicator 0) (alike n (h n (omega arith))))

-- an index at a ceiling is so among eight axes as among the job's
pub carried_eight : (d : ℕ) (rs : List IndexRecord) → 1 ≤ d → d ≤ 8 → places_test d rs ≡ true → carried_in 8 rs ≡ carried_in d rs
carried_eight d rs some few passed =
    carried_alike d rs (λ p h. axes_alike d (levels_at rs p) some (place_within d rs passed p h) (place_beyond d rs passed few p h) few)

-- the same where each place holds an index of d axes
pub carried_of_indices : (d : ℕ) (rs : List IndexRecord) → 1 ≤ d → d ≤ 8 → ((p : ℕ) → p < length rs → Index d (levels_at rs p)) → carried_in 8 rs ≡ carried_in d rs
carried_of_indices d rs some few index = carried_alike d rs (λ p h. ceiling_facts.axes_alike d (levels_at rs p) some few (index p h))

-- ---- the area
module _ (j : JobRecord) (c : List ℕ) (s : List ℤ) where
  abbrev whole : Area
  whole = area_of j c s

  answer : area_test whole ≡ checked whole
  answer = same_answer (area_test whole) (checked whole) (link_check_facts.on_cells j c s) (clause_facts.answer whole)

  pub job_facts : job_test j (length c / 27) (length s) ≡ true → Job j (length c / 27) (length s)
  job_facts = (reads_job j (length c / 27) (length s)).sure

  no_job : job_test j (length c / 27) (length s) ≡ false → area_test whole ≡ false
  unfolding area_test
  no_job e = rw (length-records_of c, e)

  pub answer_no : job_test j (length c / 27) (length s) ≡ false → false ≡ checked whole
  answer_no e = sym (no_job e) ∙ answer

  module _ (e : job_test j (length c / 27) (length s) ≡ true) where
    pub cells_there : j.held * 27 ≤ length c
    cells_there = omega (arith, (job_facts e).long, (job_facts e).held.1)

    held_alone : area_test whole ≡ held_test j (held_in c j.held) s
    unfolding area_test held_in
    held_alone = rw (length-records_of c, e)

    pub answer_held : held_test j (held_in c j.held) s ≡ checked whole
    answer_held = sym held_alone ∙ answer
