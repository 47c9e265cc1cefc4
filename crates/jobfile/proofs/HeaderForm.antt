-- The header's form, test by test as the code asks them, and what a formed file says of its header.
-- Assumes nothing.
use mathlib.Core.Path.{◌≡◌, refl, ◌∙◌}
use mathlib.Core.Bool.{true}
use mathlib.Core.List.{List}
use Prim.Native.Nat.{ℕ, ◌<◌, ◌≤◌}
use native.Mathlib.Omega.{arith}
use lib.Dec.{leb, eqb}
use lib.ListN.{length}
use borrow.Author.Tests.{eqb-true, leb-true, le-leb, lt-leb, eq-eqb, ne_eqb}
use Rattle.jobfile.specs.Bytes.{four}
use Rattle.jobfile.specs.Form.{Fault, Form, header, formed, broken, field, header_form, entry_count}
use Rattle.jobfile.proofs.Fields.{never_both, cut_off, refused, kept, cut_later, has_field, stops}

module _ (c : List ℕ) (next : Form) where
  -- the offset's field, then the count's, and the three fields without a rule
  abbrev from_offset : Form
  from_offset = field header (length c) 20 4 (eqb (four c 20) 24) next

  abbrev from_count : Form
  from_count = field header (length c) 16 4 (leb (four c 16) 512) from_offset

  abbrev from_threshold : Form
  from_threshold = field header (length c) 8 8 true from_count

  abbrev from_budget : Form
  from_budget = field header (length c) 4 4 true from_threshold

  pub header_cut : length c < 20 → header_form c next ≡ broken (header (length c))
  unfolding header_form
  header_cut h =
      cut_later header (length c) 0 4 from_budget
      (cut_later header (length c) 4 4 from_threshold (cut_later header (length c) 8 8 from_count (cut_off header (length c) 16 4 (leb (four c 16) 512) from_offset h)))

  -- the fields without a rule are passed
  passed : 16 ≤ length c → header_form c next ≡ from_count
  unfolding header_form
  passed h =
      kept header (length c) 0 4 true from_budget (omega arith) refl
      ∙ kept header (length c) 4 4 true from_threshold (omega arith) refl
      ∙ kept header (length c) 8 8 true from_count h refl

  pub header_many : 20 ≤ length c → 512 < four c 16 → header_form c next ≡ broken (header 16)
  header_many h m = passed (omega arith) ∙ refused header (length c) 16 4 (leb (four c 16) 512) from_offset h (lt-leb (four c 16) 512 m)

  module _ (there : 20 ≤ length c) (few : four c 16 ≤ 512) where
    counted : header_form c next ≡ from_offset
    counted = passed (omega arith) ∙ kept header (length c) 16 4 (leb (four c 16) 512) from_offset there (le-leb (four c 16) 512 few)

    pub header-short : length c < 24 → header_form c next ≡ broken (header (length c))
    header-short h = counted ∙ cut_off header (length c) 20 4 (eqb (four c 20) 24) next h

    pub header_offset : 24 ≤ length c → (four c 20 ≡ 24 → ⊥) → header_form c next ≡ broken (header 20)
    header_offset h n = counted ∙ refused header (length c) 20 4 (eqb (four c 20) 24) next h (ne_eqb (four c 20) 24 n)

    pub header_kept : 24 ≤ length c → four c 20 ≡ 24 → header_form c next ≡ next
    header_kept h e = counted ∙ kept header (length c) 20 4 (eqb (four c 20) 24) next h (eq-eqb (four c 20) 24 e)

-- what a formed file says of its header
pub record HeaderKept (c : List ℕ) (next : Form) : Type 0 where
  pub inside : 24 ≤ length c
  pub few : entry_count c ≤ 512
  pub table : four c 20 ≡ 24
  pub rest : next ≡ formed

pub has_header : (c : List ℕ) (next : Form) → header_form c next ≡ formed → HeaderKept c next
unfolding header_form
has_header c next e =
    let a = has_field header (length c) 0 4 true (from_budget c next) e in
    let b = has_field header (length c) 4 4 true (from_threshold c next) a.rest in
    let d = has_field header (length c) 8 8 true (from_count c next) b.rest in
    let k = has_field header (length c) 16 4 (leb (four c 16) 512) (from_offset c next) d.rest in
    let o = has_field header (length c) 20 4 (eqb (four c 20) 24) next k.rest in
    record { inside = o.inside; few = leb-true (four c 16) 512 k.keeps; table = eqb-true (four c 20) 24 o.keeps; rest = o.rest }

-- a header that is formed leaves the answer to what comes next, and one that is not is the answer
pub header_passes : (c : List ℕ) (next : Form) → header_form c formed ≡ formed → header_form c next ≡ next
header_passes c next e =
    let k = has_header c formed e in
    header_kept c next (omega arith) k.few k.inside k.table

pub header_stops : (c : List ℕ) (next : Form) {f : Fault} → header_form c formed ≡ broken f → header_form c next ≡ broken f
unfolding header_form
header_stops c next {f} e =
    stops header (length c) 0 4 true (from_budget c formed) (from_budget c next)
    (stops header (length c) 4 4 true (from_threshold c formed) (from_threshold c next)
    (stops header (length c) 8 8 true (from_count c formed) (from_count c next)
    (stops header (length c) 16 4 (leb (four c 16) 512) (from_offset c formed) (from_offset c next)
    (stops header (length c) 20 4 (eqb (four c 20) 24) formed next (λ q. absurd (never_both q))))))
    e
