-- The words of the held records when an index is appended: one more, at its place; when a record gets another state: the same.
-- The idea: naming the new place changes links only, so the level lists of the held are those from before and then the new one.
-- Assumes nothing.
use mathlib.Core.Path.{◌≡◌, sym, ap, ◌∙◌}
use mathlib.Core.List.{List, [], ◌∷◌, ◌++◌, map-append}
use Prim.Native.Nat.{ℕ, ◌+◌, ◌*◌, ◌<◌, ◌≤◌}
use native.Mathlib.Numerals.{add-one}
use native.Mathlib.Omega.{arith}
use lib.ListN.{length, set, take}
use lib.Seq.{take-suc-set}
use Rattle.std.specs.Prelude.{Option, option_map}
use Rattle.std.proofs.lemmas.Option.{IfSome_then}
use Rattle.area.specs.declared.IndexRecord.{IndexRecord}
use Rattle.area.specs.Records.{Run, records_of, run_of, stored, held_in, levels_of}
use Rattle.area.specs.Packed.{FitsByte, PackedWords, words_with}
use Rattle.area.proofs.Records.{length-records_of}
use Rattle.area.proofs.PackedRuns.{held_count, levels_take, packed_kept, packed_map, packed_next}
use Rattle.quadrature.specs.Readings.{record_at}
use Rattle.writing.specs.Changes.{with_state, admitted_record, new_links, named_from, appended}
use Rattle.writing.proofs.Fields.{with_state_levels_of}
use Rattle.writing.proofs.Named.{named_levels_of, named-length}

module _ (rs : List IndexRecord) (n f : ℕ) (x : List ℕ) (h : n < length rs) where
  abbrev links : List ℕ
  links = new_links (levels_of (take n rs)) x

  abbrev named : List IndexRecord
  named = named_from 8 0 links n rs

  abbrev new : IndexRecord
  new = admitted_record links x f

  appended_levels : levels_of (take (n + 1) (appended rs n f x)) ≡ levels_of (take n rs) ++ (x ∷ [])
  unfolding appended admitted_record levels_of
  appended_levels =
      ap (λ m. levels_of (take m (set named n new))) (add-one n)
      ∙ ap levels_of (take-suc-set named n new (omega (arith, named-length links n 8 0 rs, h)))
      ∙ map-append (λ (r : IndexRecord). r.levels) (take n named) (new ∷ [])
      ∙ ap (λ (ls : List (List ℕ)). ls ++ (x ∷ [])) (levels_take n named ∙ ap (take n) (named_levels_of links n 8 0 rs) ∙ sym (levels_take n rs))

pub appended_words : (c d : List ℕ) (w : Option (List ℕ)) (n f : ℕ) (x : List ℕ) → n * 27 + 27 ≤ length c → n < 512 → records_of d ≡ appended (records_of c) n f x
    → PackedWords w (held_in c n) → FitsByte x → PackedWords (option_map (λ ws. words_with ws n x) w) (held_in d (n + 1))
unfolding held_in
appended_words c d w n f x room few e u fit = packed_map w (λ ws. words_with ws n x) (λ ws v. packed_next ws (held_in c n) (held_in d (n + 1)) x levels n count few v fit) u
  where
    levels : levels_of (held_in d (n + 1)) ≡ levels_of (held_in c n) ++ (x ∷ [])
    levels = ap (λ rs. levels_of (take (n + 1) rs)) e ∙ appended_levels (records_of c) n f x (omega (arith, length-records_of c, room))

    count : length (held_in c n) ≡ n
    count = held_count c n (omega (arith, room))

-- a record with another state and indicator has the levels that it had
pub state_words : (c d : List ℕ) (w : Option (List ℕ)) (n p s i : ℕ) → run_of d ≡ stored (run_of c) p (with_state (record_at (records_of c) p) s i) → PackedWords w (held_in c n) → PackedWords w (held_in d n)
state_words c d w n p s i e u =
    IfSome_then w u (λ ws v. packed_kept ws c d n (sym (ap (λ (r : Run). levels_of r.records) e ∙ with_state_levels_of (records_of c) p s i)) v)
