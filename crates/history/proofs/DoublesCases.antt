-- Reports of doubles in cases worked out by hand, by computation.
-- Assumes nothing.
use mathlib.Core.Path.{refl}
use lib.Count.{count_trailing_zeros}
use lib.Ieee.{span, climb, size, odd, units as smallest, round, to_bits}
use Rattle.sums.specs.Sums.{sum_to, sum_of}
use Rattle.rule.specs.Points.{new_count}
use Rattle.rule.specs.Rules.{unit}
use Rattle.rule.specs.Weights.{whole_weight, ends_one, ends_minus_one, difference_weight}
use Rattle.grid.specs.Index.{root, excess, levels_within, within, forward, backward, in_front, lower, at_ceiling}
use Rattle.grid.specs.Block.{block_size}
use Rattle.grid.specs.Difference.{units, behind, difference_product, difference_sum, scaled_difference}
use Rattle.grid.specs.Largest.{larger, largest_difference}
use Rattle.grid.specs.Tensor.{tensor_sum, tensor_rule}
use Rattle.grid.specs.Coefficient.{same_levels, is_in, subsets, sign, raised_on, coefficient}
use Rattle.grid.specs.Cross as grid-cross
use Rattle.doubles.specs.Double.{double, report_of}
use Rattle.area.specs.Entry.{delivered_of, readings_of, reading_in, reserved_by, pending_of, carried_of}
use Rattle.area.specs.Settings.{readings_for, reading_count, least_store}
use Rattle.soundness.specs.Test.{all_from}
use Rattle.machine.specs.Log.{wanted, first_wanted, any_wanted, active_at}
use Rattle.machine.specs.Choose as choice
use Rattle.machine.specs.Promote as refining
use Rattle.machine.specs.Steps as steps
use Rattle.machine.specs.Causes.{first_cause, short, in_range}
use Rattle.machine.specs.Means.{cross_of}
use Rattle.machine.specs.Largest.{largest_of}
use Rattle.counting.specs.Doubles.{doubles_of}
use Rattle.calls.specs.Table.{promotion_effect, row, causes_of, effect_of, passes_check, accepted_answer, refused_answer, refusal, answer_of, changed, state_after}
use Rattle.wihupya.specs.Exports.{number_of, report_bits, answer_words}
use Rattle.history.specs.Logged.{state_of, log_step, log_after, answer_by}
use Rattle.history.specs.OnExports.{call_of, export_answer, export_answers_by}
use Rattle.history.specs.Excluded.{file_calls}
use Rattle.history.specs.DoublesCases.{log_then, doubles_then, DoublesCases}

pub doubles_cases : DoublesCases
unfolding to_bits log_then doubles_then file_calls state_of log_step log_after answer_by promotion_effect row causes_of effect_of passes_check accepted_answer refused_answer refusal answer_of changed state_after first_cause short in_range readings_for reading_count least_store wanted first_wanted any_wanted active_at root steps.started steps.deliver steps.promote_step steps.deliver_at steps.delivered refining.promote_within refining.refine refining.make_old refining.made_old choice.choose choice.selected choice.first_active choice.largest choice.is_over choice.is_met refining.fits refining.admitted_axes refining.passing refining.admits refining.backward_old refining.is_old within levels_within excess forward backward all_from same_levels reserved_by pending_of carried_of at_ceiling cross_of grid-cross.cross_total delivered_of reading_in readings_of coefficient sum_of subsets sign raised_on is_in tensor_rule tensor_sum units unit sum_to whole_weight ends_one ends_minus_one new_count behind block_size in_front lower difference_weight difference_product difference_sum scaled_difference larger largest_difference largest_of doubles_of report_of double round size span climb smallest odd count_trailing_zeros call_of export_answer export_answers_by number_of answer_words report_bits
doubles_cases = record { file = refl; nothing = refl; equal_sizes = refl; negative = refl; altered = refl; while_wanted = refl; lent_doubles_lem = λ given. refl }
