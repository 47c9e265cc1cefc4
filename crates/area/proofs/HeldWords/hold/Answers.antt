-- `area::HeldWords::hold` meets its contract: the words so far are those of the records passed, and the records left say whether all fit. Assumes nothing.
use Rattle.std.proofs.Common.{◌≡◌, ℕ, ◌+◌, ◌<◌, Bool, true, false, ◌&&◌, List, length, get_or, take, drop, refl, sym, ap, ◌∙◌, subst, arith}
use Rattle.std.specs.Prelude.{Some, is_some}
use borrow.Author.Rules.{rules}
use lib.Seq.{take_all}
use Rattle.area.specs.declared.IndexRecord.{IndexRecord}
use Rattle.area.specs.Records.{blank}
use Rattle.area.specs.Packed.{fits_byte, all_fit_byte, packing_of, PackedRun, PackedWords}
use Rattle.area.proofs.Packs.{pack_facts, told_word, told_larger, put_is}
use Rattle.area.proofs.PackedRuns.{fit_head, fit_end, packed_none, packed-place}
use Rattle.area.proofs.Views.{words_seen}
use Rattle.area.proofs.HeldWords.hold.Goals as goal

pub loop-place-init : goal.loop-place-init
loop-place-init c = record { left = refl; packed = refl; passed = packed_none _ c.args.held.now (search rules) }

-- what the first place left says of them all
module _ (held : List IndexRecord) (place : ℕ) (some : place < length held) (t : Bool) where
  left_here : all_fit_byte held ≡ all_fit_byte (drop place held) → fits_byte (get_or held place blank).levels ≡ t
      → all_fit_byte held ≡ (t && all_fit_byte (drop (place + 1) held))
  left_here e fits = e ∙ fit_head held place some ∙ ap (λ b. b && all_fit_byte (drop (place + 1) held)) fits

pub returns-in_default-clause-packs : goal.returns-in_default-clause-packs
returns-in_default-clause-packs c =
    let l = c.loop-place in
    sym (left_here c.args.held.now l.place (omega arith) false l.invariant.left (told_larger _ (sym (c.in_default.ensures ∙ ap packing_of c.levels.ensures))))

pub loop-place-preserved : goal.loop-place-preserved
loop-place-preserved c =
    let l = c.loop-place in
    let held = c.args.held.now in
    let word = c.in-Some.word in
    let words = l.self-inside.words in
    let k = (get_or held l.place blank).levels in
    let e : packing_of k ≡ Some word = sym (c.in-Some.ensures ∙ ap packing_of c.levels.ensures) in
    let fits = (told_word k word e).0 in
    record {
      left = left_here held l.place (omega arith) true l.invariant.left fits;
      packed = l.invariant.packed;
      passed = subst (λ ws. PackedRun ws (take (l.place + 1) held)) (put_is k words l.place word e)
          (packed-place words held l.place (omega arith) (omega (arith, c.requires)) l.invariant.passed ((pack_facts.tested k).0 fits));
    }

pub returns : goal.returns
returns c =
    let l = c.loop-place in
    let held = c.args.held.now in
    let seen = words_seen l.self-inside.words l.self-inside.are_packed l.invariant.packed in
    let done : l.place ≡ length held = omega arith in
    record {
      packs = ap is_some seen ∙ sym (l.invariant.left ∙ fit_end held l.place (omega arith));
      words = subst (λ w. PackedWords w held) (sym seen)
          (subst (PackedRun l.self-inside.words) (ap (λ n. take n held) done ∙ take_all (length held) held (omega arith)) l.invariant.passed);
    }
