-- `area::HeldWords::lookup` meets its contract: where the words hold and the levels fit, equal words have equal levels; else it is the lookup. Assumes nothing.
use borrow.Author.Rules.{rules}
use Rattle.std.proofs.Common.{sym, ap, ◌∙◌, take, arith}
use Rattle.area.specs.Packed.{packed, word_from}
use Rattle.area.proofs.Packs.{pack_facts, told_word}
use Rattle.area.proofs.PackedRuns.{found_packed}
use Rattle.area.proofs.Views.{count_is, eight_seen, words_seen}
use Rattle.area.proofs.HeldWords.lookup.Goals as goal

pub shared_ref_as_front-lookup_word : goal.shared_ref_as_front-lookup_word
shared_ref_as_front-lookup_word c =
    let u = rw (sym c.self.view_is ∙ words_seen c.self.inside.words c.self.inside.are_packed c.if-self.true) at c.requires in
    omega (arith, u.few, count_is c.held.inside.cells.now c.held.inside.count c.args.held.now c.held.invariant c.held.view_is)

pub returns : goal.returns
returns c =
    let u = rw (sym c.self.view_is ∙ words_seen c.self.inside.words c.self.inside.are_packed c.if-self.true) at c.requires in
    let n = c.held.inside.count in
    let count = count_is c.held.inside.cells.now n c.args.held.now c.held.invariant c.held.view_is in
    let words = c.self.inside.words in
    let held_words = take n words in
    let t = told_word c.args.levels c.in-Some.word (sym c.pack.ensures ∙ c.in-Some.is) in
    c.lookup_word.ensures ∙ ap (word_from 0 held_words) (sym t.1)
    ∙ sym (found_packed words c.args.held.now c.args.levels (search rules) (eight_seen c.held.inside.cells.now n c.args.held.now c.held.invariant c.held.view_is) u ((pack_facts.tested c.args.levels).0 t.0)
    ∙ ap (λ m. word_from 0 (take m words) (packed c.args.levels)) count)
