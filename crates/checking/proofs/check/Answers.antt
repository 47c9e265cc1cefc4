-- `checking::check` meets its contract: the job record decides, or else the held records. Assumes nothing.
use mathlib.Core.Path.{sym, ◌∙◌}
use native.Mathlib.Omega.{arith}
use Rattle.area.proofs.PackedRuns.{held_count}
use Rattle.checking.proofs.Whole.{job_facts, answer_no, cells_there, answer_held}
use Rattle.checking.proofs.check.Goals as goal

pub returns-then-not-job_fits : goal.returns-then-not-job_fits
returns-then-not-job_fits c =
    answer_no c.args.job c.args.cells.now c.args.store.now (sym c.job_fits.ensures ∙ c.if-not-job_fits.true)

pub first-held-requires : goal.first-held-requires
first-held-requires c = cells_there c.args.job c.args.cells.now c.args.store.now (sym c.job_fits.ensures ∙ c.if-not-job_fits.false)

pub held_fit-requires : goal.held_fit-requires
held_fit-requires c =
    let fits = sym c.job_fits.ensures ∙ c.if-not-job_fits.false in
    let f = job_facts c.args.job c.args.cells.now c.args.store.now fits in
    let count = held_count c.args.cells.now c.args.job.held (cells_there c.args.job c.args.cells.now c.args.store.now fits) in
    record { settings_fit = (f.settings, rw c.first-held.ensures (omega (arith, count, f.held.1))); store_len = f.room }

pub returns : goal.returns
returns c =
    let fits = sym c.job_fits.ensures ∙ c.if-not-job_fits.false in
    rw c.held_fit.ensures (rw c.first-held.ensures (answer_held c.args.job c.args.cells.now c.args.store.now fits))
