-- Each chunk that came is taken off the input, and none comes only at its end, since there is room.
use Rattle.std.proofs.Common.{◌≡◌, ◌+◌, rules, arith, take, subst}
use Rattle.std.specs.Io.KnownBytes.{Consumes}
use Rattle.integrator.proofs.Taking.{taken_more}
use Rattle.integrator.proofs.read_file.Goals as goal

pub returns-after-loop-at-clause-bytes : goal.returns-after-loop-at-clause-bytes
returns-after-loop-at-clause-bytes g c = (c.loop-at.invariant.taken, λ h. absurd (omega arith))

pub returns-then-count-eq0-clause-bytes : goal.returns-then-count-eq0-clause-bytes
returns-then-count-eq0-clause-bytes g c =
    let came = c.in_ok-count.ensures in
    let same : c.loop-at.at + c.in_ok-count.count ≡ c.loop-at.at = omega arith in
    let taken = taken_more _ _ _ _ _ _ _ _ c.loop-at.invariant.room came.within came.stands.1 c.loop-at.invariant.taken came.bytes.0 in
    (subst (λ n. Consumes (g.R.Read.remaining c.args.input.now) (g.R.Read.remaining c.read_more.new.input) (take n c.read_more.new.file)) same taken, λ h. came.bytes.1 c.if-count-eq0.true (search rules))

pub loop-at-preserved : goal.loop-at-preserved
loop-at-preserved g c =
    let came = c.in_ok-count.ensures in
    record { room = search rules; taken = taken_more _ _ _ _ _ _ _ _ c.loop-at.invariant.room came.within came.stands.1 c.loop-at.invariant.taken came.bytes.0 }
