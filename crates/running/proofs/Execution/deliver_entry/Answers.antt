-- `running::Execution::deliver_entry` meets its contract: only the count and the range of the readings can refuse, and an accepted delivery leaves the
-- next state. Assumes nothing.
use Rattle.area.specs.declared.IndexRecord.{IndexRecord}
use Rattle.quadrature.specs.Readings.{record_at}
use Rattle.std.proofs.Common.{List, ◌≡◌, ap, ap₂, sym, ◌∙◌, ◌+◌, ◌*◌, length, take, arith}
use Rattle.std.proofs.lemmas.List.{length-take-le}
use Rattle.area.specs.Encoding.{area_of, machine_of}
use Rattle.machine.specs.Areas.{deliver_on}
use Rattle.machine.specs.Causes.{in_range}
use Rattle.jobfile.specs.File.{entry_of}
use Rattle.running.specs.Execution.{first_out_of_range, refused_at}
use Rattle.running.specs.Code.{after_delivery}
use Rattle.running.proofs.Blocks.{readings-length, bad_found, none_found}
use Rattle.area.proofs.PackedRuns.{held_count}
use Rattle.calls.proofs.Validity.{held_there}
use Rattle.running.proofs.Deliveries.{levels_within_lem, count_is, count_refused, range_refused, done, block_is}
use Rattle.running.proofs.Execution.deliver_entry.Goals as goal

pub levels-requires : goal.levels-requires
levels-requires c =
    let a = c.args.self.now in
    let v = c.requires in
    rw c.first-held.ensures (omega (arith, v.2, held_count a.cells a.job.held (held_there a.job a.cells a.store v.0.area)))

pub reading_count-size-requires : goal.reading_count-size-requires
reading_count-size-requires c =
    let a = c.args.self.now in
    let v = c.requires in
    levels_within_lem a.job a.cells a.store v.0.area c.args.place v.1 v.2 c.levels.result (c.levels.ensures ∙ ap (λ (rs : List IndexRecord). (record_at rs c.args.place).levels) c.first-held.ensures)

pub returns-then-count-size-clause-is : goal.returns-then-count-size-clause-is
unfolding after_delivery
returns-then-count-size-clause-is c =
    let a = c.args.self.now in
    let v = c.requires in
    count_refused a.job a.cells a.store v.0.area c.args.place v.1 v.2 a.bytes.now a.used
    (λ e. c.if-count-size.true (c.four_at-count.ensures ∙ e ∙ sym (c.reading_count-size.ensures ∙ count_is a.job a.cells a.store v.0.area c.args.place v.1 v.2 c.levels.result (c.levels.ensures ∙ ap (λ (rs : List IndexRecord). (record_at rs c.args.place).levels) c.first-held.ensures))))

pub returns-in-Some-clause-is : goal.returns-in-Some-clause-is
unfolding after_delivery
returns-in-Some-clause-is c n =
    let a = c.args.self.now in
    let v = c.requires in
    let count = c.four_at-count in
    let from = c.four_at-from in
    let room : length (take count.result a.block) ≡ count.result = length-take-le count.result a.block (omega arith) in
    let readings = block_is a.bytes.now a.used count.result from.result _ c.read_block.new.block c.read_block.ensures room count.ensures from.ensures in
    let whole = sym count.ensures ∙ c.if-count-size.false ∙ c.reading_count-size.ensures ∙ count_is a.job a.cells a.store v.0.area c.args.place v.1 v.2 c.levels.result (c.levels.ensures ∙ ap (λ (rs : List IndexRecord). (record_at rs c.args.place).levels) c.first-held.ensures) in
    let bad = bad_found c.read_block.new.block c.in-Some.bad c.in-Some.ensures in
    range_refused a.job a.cells a.store v.0.area c.args.place v.1 v.2 a.bytes.now a.used whole (ap in_range (sym readings) ∙ bad.0) n
    ∙ ap₂ (λ x y. refused_at 8 (x + 4 * y)) (sym from.ensures) (sym (bad.1 ∙ ap first_out_of_range readings))

pub deliver-self-requires-clause-readings_len : goal.deliver-self-requires-clause-readings_len
unfolding machine_of
deliver-self-requires-clause-readings_len c =
    let a = c.args.self.now in
    let v = c.requires in
    let count = c.four_at-count in
    let room : length (take count.result a.block) ≡ count.result = length-take-le count.result a.block (omega arith) in
    let long : length c.read_block.new.block ≡ count.result = ap length c.read_block.ensures ∙ readings-length a.bytes.now _ c.four_at-from.result ∙ room in (
      long ∙ c.if-count-size.false ∙ c.reading_count-size.ensures ∙ count_is a.job a.cells a.store v.0.area c.args.place v.1 v.2 c.levels.result (c.levels.ensures ∙ ap (λ (rs : List IndexRecord). (record_at rs c.args.place).levels) c.first-held.ensures),
      none_found c.read_block.new.block c.in_default.ensures,
    )

pub returns-clause-is : goal.returns-clause-is
unfolding after_delivery entry_of
returns-clause-is c =
    let a = c.args.self.now in
    let v = c.requires in
    let count = c.four_at-count in
    let from = c.four_at-from in
    let room : length (take count.result a.block) ≡ count.result = length-take-le count.result a.block (omega (arith, v.0.formed.readings_at_most a.used (omega arith), count.ensures)) in
    let readings = block_is a.bytes.now a.used count.result from.result _ c.read_block.new.block c.read_block.ensures room count.ensures from.ensures in
    let whole = sym count.ensures ∙ c.if-count-size.false ∙ c.reading_count-size.ensures ∙ count_is a.job a.cells a.store v.0.area c.args.place v.1 v.2 c.levels.result (c.levels.ensures ∙ ap (λ (rs : List IndexRecord). (record_at rs c.args.place).levels) c.first-held.ensures) in
    done a.job a.cells a.store v.0.area c.args.place v.1 v.2 a.bytes.now a.used whole (ap in_range (sym readings) ∙ none_found c.read_block.new.block c.in_default.ensures) _
    (c.deliver-self.ensures.is ∙ ap₂ (deliver_on (area_of a.job a.cells a.store)) readings c.four_at-indicator.ensures)
