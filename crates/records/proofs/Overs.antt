-- The first records of one list over the front of another: how a loop lays them, one place a turn.
-- The idea: one element more is the next one set at its place.
-- Assumes nothing.
use mathlib.Core.Path.{◌≡◌, refl, ap, sym, ◌∙◌}
use mathlib.Core.List.{List, ◌++◌, append_assoc, append-nil}
use Prim.Native.Nat.{ℕ, ◌+◌, ◌*◌, ◌≤◌, ◌<◌}
use native.Mathlib.Nat.{le_of_lt, le_of_eq, le_refl}
use native.Mathlib.Numerals.{add-one}
use native.Mathlib.Omega.{arith}
use lib.ListN.{length, get_or, take, drop, set, length-append, length-drop, take-append-drop}
use Rattle.std.proofs.lemmas.List.{get_or_default, take-take}
use lib.Seq.{drop-cons, set_at, take-suc, append_snoc, length-take-le, take_at, drop-append-le, drop-length, take_all}
use Rattle.area.specs.declared.IndexRecord.{IndexRecord}
use Rattle.area.specs.Records.{Run, blank, records_of, run_of, stored}
use Rattle.area.proofs.Records.{length-records_of}
use Rattle.records.specs.Lent.{over, over_run, front}

module _ {A : Type 0} where
  pub over_none : (xs ys : List A) → over 0 xs ys ≡ ys
  unfolding over
  over_none xs ys = refl

  pub over_next : (xs ys : List A) (i : ℕ) (d : A) → i < length xs → i < length ys → set (over i xs ys) i (get_or xs i d) ≡ over (i + 1) xs ys
  unfolding over
  over_next xs ys i d hx hy =
      let hl : length (take i xs) ≡ i = length-take-le i xs (le_of_lt hx) in
      rw (drop-cons ys i d hy, set_at (take i xs) _ _ _ i hl, add-one i, take-suc xs i d hx)
      (rw append_snoc)

  -- it is as long as the list that it is laid over
  pub over-length : (n : ℕ) (xs ys : List A) → n ≤ length xs → n ≤ length ys → length (over n xs ys) ≡ length ys
  unfolding over
  over-length n xs ys hx hy = omega (arith, length-append (take n xs) (drop n ys), length-take-le n xs hx, length-drop n ys, hy)

-- ---- a turn that serializes a record into the cells

pub serialize_none : (rs : List IndexRecord) (c : List ℕ) → run_of c ≡ over_run 0 rs (run_of c)
serialize_none rs c = ap (λ (l : List IndexRecord). record { records = l; rest = (run_of c).rest }) (sym (over_none rs (records_of c)))

-- of the first n records, which the cells have room for
pub serialize_within : (rs : List IndexRecord) (c c' c'' : List ℕ) (i n : ℕ) (r : IndexRecord) → i < n → n ≤ length rs → n * 27 ≤ length c
    → run_of c' ≡ over_run i rs (run_of c) → r ≡ get_or rs i blank → run_of c'' ≡ stored (run_of c') i r → run_of c'' ≡ over_run (i + 1) rs (run_of c)
serialize_within rs c c' c'' i n r h hr hc e e₁ e₂ =
    let k : i < length (records_of c) = omega (arith, length-records_of c, h, hc) in
    e₂
    ∙ ap (λ (u : Run). stored u i r) e
    ∙ ap (λ (x : IndexRecord). stored (over_run i rs (run_of c)) i x) e₁
    ∙ ap (λ (l : List IndexRecord). record { records = l; rest = (run_of c).rest }) (over_next rs (records_of c) i blank (omega (arith, h, hr)) k)

-- of all records
pub serialize_next : (rs : List IndexRecord) (c c' c'' : List ℕ) (i : ℕ) (d : IndexRecord) → i < length rs → length rs * 27 ≤ length c
    → run_of c' ≡ over_run i rs (run_of c) → run_of c'' ≡ stored (run_of c') i (get_or rs i d) → run_of c'' ≡ over_run (i + 1) rs (run_of c)
serialize_next rs c c' c'' i d h hc e = serialize_within rs c c' c'' i (length rs) (get_or rs i d) h (le_refl (length rs)) hc e (get_or_default rs i d blank h)

-- ---- a turn that writes a record back

-- where both lists go on
record_next : (hs rs l : List IndexRecord) (i : ℕ) (r : IndexRecord) → i < length hs → i < length rs → l ≡ over i hs rs → r ≡ get_or hs i blank → set l i r ≡ over (i + 1) hs rs
record_next hs rs l i r k h e e₁ = ap (λ (z : List IndexRecord). set z i r) e ∙ ap (set (over i hs rs) i) e₁ ∙ over_next hs rs i blank k h

-- of the first n records, which the cells hold
pub deserialize_within : (rs l l' : List IndexRecord) (c : List ℕ) (i n : ℕ) (r : IndexRecord) → i < n → n ≤ length rs → n * 27 ≤ length c
    → l ≡ over i (records_of c) rs → r ≡ get_or (records_of c) i blank → l' ≡ set l i r → l' ≡ over (i + 1) (records_of c) rs
deserialize_within rs l l' c i n r h hr hc e e₁ e₂ = e₂ ∙ record_next (records_of c) rs l i r (omega (arith, length-records_of c, h, hc)) (omega (arith, h, hr)) e e₁

-- of as many records as are written
pub deserialize_next : (hs rs l : List IndexRecord) (i : ℕ) (r : IndexRecord) → i < length rs → length rs ≡ length hs → l ≡ over i hs rs → r ≡ get_or hs i blank → set l i r ≡ over (i + 1) hs rs
deserialize_next hs rs l i r h same = record_next hs rs l i r (omega (arith, h, same)) h

-- all of a list over another of as many elements
pub over_all : {A : Type 0} (xs ys : List A) → length ys ≡ length xs → over (length ys) xs ys ≡ xs
unfolding over
over_all xs ys e = ap (λ l. take (length ys) xs ++ l) (drop-length ys) ∙ append-nil (take (length ys) xs) ∙ take_all (length ys) xs (le_of_eq (sym e))

-- ---- the records of the front

pub over-front : {A : Type 0} (n : ℕ) (xs ys : List A) → n ≤ length xs → take n (over n xs ys) ≡ take n xs
unfolding over
over-front n xs ys h = take_at (take n xs) (drop n ys) n (length-take-le n xs h)

-- cells with the first n records over theirs hold the front of the records
pub front_of_over : (rs : List IndexRecord) (n : ℕ) (c c' : List ℕ) → n ≤ length rs → run_of c' ≡ over_run n rs (run_of c) → front n c' ≡ take n rs
unfolding front
front_of_over rs n c c' h e = ap (λ (u : Run). take n u.records) e ∙ over-front n rs (records_of c) h

-- what the serialized cells hold is the front of the records
pub flat_front : (rs : List IndexRecord) (n : ℕ) (c c' : List ℕ) → n ≤ length rs → run_of c' ≡ over_run (length (take n rs)) (take n rs) (run_of c) → front n c' ≡ take n rs
flat_front rs n c c' h e =
    front_of_over (take n rs) n c c' (le_of_eq (sym (length-take-le n rs h))) (e ∙ ap (λ m. over_run m (take n rs) (run_of c)) (length-take-le n rs h))
    ∙ take-take n n rs (le_refl n)

-- ---- the records of the front and those behind it

-- what is stored comes from the front
pub over_of_front : {A : Type 0} (k n : ℕ) (xs ys : List A) → k ≤ n → over k (take n xs) ys ≡ over k xs ys
unfolding over
over_of_front k n xs ys h = ap (λ l. l ++ drop k ys) (take-take k n xs h)

-- and is stored over the front
pub over-front_of : {A : Type 0} (k n : ℕ) (xs ys : List A) → k ≤ n → n ≤ length ys → over k xs (take n ys) ++ drop n ys ≡ over k xs ys
unfolding over
over-front_of k n xs ys h w =
    append_assoc (take k xs) (drop k (take n ys)) (drop n ys)
    ∙ ap (λ l. take k xs ++ l)
    (sym (drop-append-le k (take n ys) (drop n ys) (omega (arith, h, length-take-le n ys w))) ∙ ap (drop k) (take-append-drop n ys))
