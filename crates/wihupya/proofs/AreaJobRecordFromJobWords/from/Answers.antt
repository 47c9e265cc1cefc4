-- `area::JobRecord::from` of words meets its contract: each field from its words, and twelve words of 32 bits are written again as they were. Assumes nothing.
use borrow.Author.Rules.{rules, sfits_of}
use mathlib.Core.Path.{◌≡◌, ap, ◌∙◌}
use Prim.Native.Nat.{ℕ, ◌^◌, ◌<◌}
use lib.ListN.{length}
use mir.Syntax.{w64}
use mir.Val.{to_z}
use Rattle.sums.proofs.Words.{back}
use Rattle.wihupya.specs.Words.{word, job_of}
use Rattle.wihupya.proofs.Facts.{word-facts}
use Rattle.wihupya.proofs.AreaJobRecordFromJobWords.from.Goals as goal

pub returns : goal.returns
unfolding job_of
returns c =
    let twelve : length c.args.job.0 ≡ 12 = search rules in
    let small : (i : ℕ) → word c.args.job.0 i < 2 ^ 32 = search rules in
    let mean = back c.cast_signed.result (sfits_of c.cast_signed.type_inv) ∙ c.cast_signed.ensures ∙ ap (to_z w64) c.wide-4.ensures in
    (rw (c.wide.ensures, c.wide-2.ensures, c.wide-3.ensures, mean), word-facts.words_round_trip c.args.job.0 twelve small)
