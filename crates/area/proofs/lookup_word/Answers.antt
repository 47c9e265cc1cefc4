-- `area::lookup_word` meets its contract: the words left to search answer as all of them did. Assumes nothing.
use Rattle.std.proofs.Common.{◌≡◌, ℕ, ◌+◌, ◌*◌, ◌/◌, ◌<◌, Bool, true, false, List, length, get_or, refl, sym, ap, ◌∙◌, arith}
use Rattle.std.specs.Prelude.{cond, Some}
use lib.Dec.{eqb}
use borrow.Author.Tests.{eq-eqb, ne_eqb}
use Rattle.area.specs.Packed.{word_from}
use Rattle.area.proofs.PackedRuns.{word_head, word_end}
use Rattle.area.proofs.lookup_word.Invariants.{from}
use Rattle.area.proofs.lookup_word.Goals as goal
use Rattle.area.proofs.lookup_word.Goals.{else-last-words-via-then-last-words+else-words-last, else-last-words-via-else-last-words}

-- one place is asked: it has the word, or what is left answers
module _ (words : List ℕ) (word place : ℕ) (h : place < length words) where
  asked : (t : Bool) → eqb (get_or words place 0) word ≡ t → from words word place ≡ cond t (Some place) (from words word (place + 1))
  asked t e = word_head words place word h ∙ ap (λ x. cond x (Some place) (from words word (place + 1))) e

  has : get_or words place 0 ≡ word → from words word place ≡ Some place
  has e = asked true (eq-eqb (get_or words place 0) word e)

  has_not : (get_or words place 0 ≡ word → ⊥) → from words word place ≡ from words word (place + 1)
  has_not e = asked false (ne_eqb (get_or words place 0) word e)

pub loop-pair-init : goal.loop-pair-init
loop-pair-init c = refl

pub returns-then-words-first : goal.returns-then-words-first
returns-then-words-first c =
    let l = c.loop-pair in
    sym (l.invariant ∙ has c.args.words.now c.args.word (2 * l.pair) (omega arith) c.if-words-first.true)

pub returns-then-words-second : goal.returns-then-words-second
returns-then-words-second c =
    let l = c.loop-pair in
    sym
    (l.invariant ∙ has_not c.args.words.now c.args.word (2 * l.pair) (omega arith) c.if-words-first.false
    ∙ has c.args.words.now c.args.word (2 * l.pair + 1) (omega arith) c.if-words-second.true)

pub loop-pair-preserved : goal.loop-pair-preserved
loop-pair-preserved c =
    let l = c.loop-pair in
    let two : 2 * l.pair + 1 + 1 ≡ 2 * (l.pair + 1) = omega arith in
    l.invariant ∙ has_not c.args.words.now c.args.word (2 * l.pair) (omega arith) c.if-words-first.false
    ∙ has_not c.args.words.now c.args.word (2 * l.pair + 1) (omega arith) c.if-words-second.false
    ∙ ap (from c.args.words.now c.args.word) two

-- past all pairs
pairs_done : (words : List ℕ) (word pair : ℕ) → pair ≡ length words / 2 → word_from 0 words word ≡ from words word (2 * pair)
    → word_from 0 words word ≡ from words word (2 * (length words / 2))
pairs_done words word pair done e = e ∙ ap (λ p. from words word (2 * p)) done

pub returns-then-words-last : goal.returns-then-words-last
returns-then-words-last c =
    let l = c.loop-pair in
    sym
    (pairs_done c.args.words.now c.args.word l.pair (omega arith) l.invariant
    ∙ has c.args.words.now c.args.word (2 * (length c.args.words.now / 2)) (omega arith) c.if-words-last.true)

pub returns : goal.returns
returns c =
    let l = c.loop-pair in
    let words = c.args.words.now in
    let past = pairs_done words c.args.word l.pair (omega arith) l.invariant in
    elim c.else-last-words.branch [
      | else-last-words-via-then-last-words+else-words-last w ↦
          sym (past ∙ has_not words c.args.word (2 * (length words / 2)) (omega arith) w.if-words-last.false
          ∙ word_end words (2 * (length words / 2) + 1) c.args.word (omega arith))
      | else-last-words-via-else-last-words w ↦ sym (past ∙ word_end words (2 * (length words / 2)) c.args.word (omega arith))
    ]
