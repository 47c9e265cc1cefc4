-- What the type of a record says: a record that is owned has eight levels and sixteen links. So records that a slice lends are well-formed
-- (crate `encoding`, `WellFormed`), whatever they hold. Its indicator has 32 bits. And every record of eight levels and sixteen links, all of
-- 32 bits, is a value.
-- Assumes nothing.
use mathlib.Core.Path.{◌≡◌, refl}
use mathlib.Core.List.{List, [], ◌∷◌, map}
use Prim.Native.Nat.{ℕ, ◌^◌, ◌<◌}
use lib.ListN.{length}
use mir.Syntax.{w32}
use mir.Val.{Val, vint, vstruct, of_list}
use denote.Array.{array_val, each}
use denote.Laws.{Is}
use denote.Plain.{UInt}
use denote.Shadow.{shadow}
use denote.Struct.Laws as LL
use borrow.Author.Rules.{rules}
use Rattle.area.specs.declared.IndexRecord.{IndexRecord}
use Rattle.area.specs.contracts.IndexRecord as T
use Rattle.area.proofs.IndexRecord.TheLaws as T'
use Rattle.records.specs.Unwritten.{AllWords}

pub well_formed : (r : IndexRecord) (v : Val) → Is T.the_row r (v ∷ []) → (length r.levels ≡ 8) × (length r.links ≡ 16)
well_formed r v is = let parts = LL.owed T.the_type T'.the_laws r _ is in (search rules, search rules)

pub indicator_small : (r : IndexRecord) (v : Val) → Is T.the_row r (v ∷ []) → r.indicator < 2 ^ 32
indicator_small r v is = let parts = LL.owed T.the_type T'.the_laws r _ is in search rules

-- ---- the value of a record

abbrev word : ℕ → Val
word n = vint w32 n

abbrev words : List ℕ → List Val
words ns = map word ns

abbrev array : List ℕ → Val
array ns = array_val (words ns)

-- an array field has each element as it is
each_word : (ns : List ℕ) → AllWords ns → shadow (each ℕ (UInt w32).own_val ns (words ns))
each_word [] s = tt
each_word (n ∷ ns) s = ((refl, s.0), each_word ns s.1)

pub typed_value : (r : IndexRecord) → length r.levels ≡ 8 → length r.links ≡ 16
    → AllWords r.levels → r.state < 2 ^ 32 → r.indicator < 2 ^ 32 → r.first < 2 ^ 32 → AllWords r.links → (v : Val) × Is T.the_row r (v ∷ [])
typed_value r eight sixteen levels state indicator first links = (
  vstruct (of_list (array r.levels ∷ word r.state ∷ word r.indicator ∷ word r.first ∷ array r.links ∷ [])),
  (
    (array r.levels ∷ [], (word r.state ∷ [], (word r.indicator ∷ [], (word r.first ∷ [], (array r.links ∷ [], tt))))),
    (
      refl,
      (
        (words r.levels, ((refl, eight), each_word r.levels levels)),
        (
          (refl, state),
          (
            (refl, indicator),
            (
              (refl, first),
              ((words r.links, ((refl, sixteen), each_word r.links links)), tt),
            ),
          ),
        ),
      ),
    ),
  ),
)
