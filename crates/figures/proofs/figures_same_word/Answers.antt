-- `figures::figures_same_word` meets its contract: where both lists fit, the words are equal exactly if the levels are. Assumes nothing.
use Rattle.std.proofs.Common.{◌≡◌, ℕ, List, length, refl, sym, ◌∙◌}
use Rattle.std.specs.Prelude.{Bool, true, false, cond, ◌&&◌, eqb, Some}
use Rattle.std.specs.Int.{from_bool}
use Rattle.grid.specs.Coefficient.{same_levels}
use Rattle.area.specs.Packed.{fits_byte, packing_of}
use Rattle.area.proofs.Packs.{pack_facts, told_word, told_larger}
use Rattle.area.proofs.PackedRuns.{same_words}
use Rattle.figures.proofs.figures_same_word.Goals as goal

-- two words are told
told_both : (k l : List ℕ) (v w : ℕ) → length k ≡ length l → packing_of k ≡ Some v → packing_of l ≡ Some w
    → ◌≡◌ {A = ℕ} (cond (fits_byte k && fits_byte l) (cond (same_levels k l) 1 0) 2) (cond (eqb v w) 1 0)
told_both k l v w h e f =
    let t = told_word k v e in
    let u = told_word l w f in
    rw (t.0, u.0, same_words k l h ((pack_facts.tested k).0 t.0) ((pack_facts.tested l).0 u.0), t.1, u.1)

pub returns-in_default : goal.returns-in_default
returns-in_default c = rw (told_larger c.args.left.now (sym c.in_default.ensures))

pub returns-in_default-pack : goal.returns-in_default-pack
returns-in_default-pack c =
    let t = told_word c.args.left.now c.in-Some.first (sym c.in-Some.ensures) in
    rw (t.0, told_larger c.args.right.now (sym c.in_default-pack.ensures))

bit_is : (t : Bool) → ◌≡◌ {A = ℕ} (cond t 1 0) (from_bool t)
bit_is true = refl
bit_is false = refl

pub returns : goal.returns
returns c =
    c.from.ensures
    ∙ sym
    (told_both c.args.left.now c.args.right.now c.in-Some.first c.in-Some-pack.second (c.requires.0 ∙ sym c.requires.1) (sym c.in-Some.ensures) (sym c.in-Some-pack.ensures)
    ∙ bit_is (eqb c.in-Some.first c.in-Some-pack.second))
