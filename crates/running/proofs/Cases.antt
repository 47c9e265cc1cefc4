-- What files print, by computation. Assumes nothing.
use mathlib.Core.Path.{refl}
use mathlib.Core.List.{List, [], ◌∷◌}
use Prim.Native.Nat.{ℕ}
use lib.IntN.{ℤ, pos, negsuc}
use lib.ListN.{set, take, replicate}
use lib.Seq.{sets}
use Rattle.sums.specs.Sums.{sum_to, sum_of}
use Rattle.rule.specs.Points.{new_count}
use Rattle.rule.specs.Rules.{unit}
use Rattle.rule.specs.Weights.{difference_weight, ends_minus_one}
use Rattle.grid.specs.Index.{root, lower, in_front, excess, levels_within, within, capped_axes, at_ceiling, forward, backward}
use Rattle.grid.specs.Block.{block_size}
use Rattle.grid.specs.Difference.{units, difference_product, difference_sum, scaled_difference, behind}
use Rattle.grid.specs.Coefficient.{same_levels}
use Rattle.area.specs.Settings.{settings_of, axes_fit, budget_fit, readings_for, reading_count, least_store}
use Rattle.area.specs.Entry.{readings_of, reading_in, reserved_by, pending_of, carried_of}
use Rattle.soundness.specs.Test.{all_from}
use Rattle.machine.specs.Log.{wanted, first_wanted, any_wanted}
use Rattle.machine.specs.Choose as choice
use Rattle.machine.specs.Promote as refining
use Rattle.machine.specs.Steps.{started, deliver, promote_step, deliver_at, delivered}
use Rattle.machine.specs.Causes.{first_cause, short, in_range, deliver_causes, start_causes}
use Rattle.machine.specs.Counts.{count_of, ceiling_count, counts_of}
use Rattle.jobfile.specs.Bytes.{four, eight, signed_four}
use Rattle.jobfile.specs.Form.{field, header_form, table_form, readings_form, form_of}
use Rattle.jobfile.specs.File.{FileEntry, readings_at, entry_of, file_of}
use Rattle.reporting.specs.Decimal.{digits, decimal, signed_decimal}
use Rattle.reporting.specs.Text.{line, ending_word, report_text, refusal_text}
use Rattle.running.specs.Execution.{first_out_of_range, delivery_byte, by_outcome, by_choice, start_byte, result_in, result_of}
use Rattle.running.specs.Report.{report_values_of, text_in, text_of}
use Rattle.running.specs.Cases.{bytes_of, says, example_file, negative_file, ceiling_file, FileCases, CeilingFileCases}
use Rattle.running.proofs.Replay.{entries_from, replay, prints}

-- The entries of the scope document's file, with the second's last reading and the third's indicator, which two of the cases change.
abbrev example_entries : ℤ → ℕ → List FileEntry
example_entries x n = says 100 (pos 4160 ∷ []) ∷ says 50 (pos 64 ∷ x ∷ []) ∷ says n (pos 4096 ∷ pos 4224 ∷ []) ∷ says 10 (pos 1088 ∷ pos 9280 ∷ []) ∷ []

abbrev large_entries : List FileEntry
large_entries =
    says 100 (pos 4160 ∷ [])
    ∷ says 4294967295 (pos 64 ∷ pos 16448 ∷ [])
    ∷ says 4294967295 (pos 4096 ∷ pos 4224 ∷ [])
    ∷ says 10 (pos 1088 ∷ pos 9280 ∷ [])
    ∷ []

abbrev negative_entries : List FileEntry
negative_entries =
    says 100 (negsuc 2 ∷ [])
    ∷ says 9 (negsuc 69999 ∷ pos 66051 ∷ [])
    ∷ says 4294967295 (negsuc 0 ∷ negsuc 1 ∷ [])
    ∷ says 30 (pos 5 ∷ negsuc 5 ∷ [])
    ∷ says 67305985 (negsuc 1048575 ∷ pos 300 ∷ [])
    ∷ []

pub file_cases : FileCases
unfolding bytes_of example_file negative_file ceiling_file entries_from replay four eight signed_four field header_form table_form readings_form form_of readings_at entry_of file_of digits decimal signed_decimal line ending_word report_text refusal_text first_out_of_range delivery_byte by_outcome by_choice start_byte result_in result_of report_values_of text_in text_of axes_fit budget_fit readings_for reading_count least_store start_causes deliver_causes first_cause short in_range any_wanted first_wanted wanted root started deliver promote_step deliver_at delivered refining.promote_within refining.refine refining.make_old refining.made_old choice.choose choice.selected choice.first_active choice.largest choice.is_over choice.is_met refining.fits refining.admitted_axes refining.passing refining.admits refining.backward_old refining.is_old within levels_within excess forward backward all_from same_levels counts_of count_of capped_axes at_ceiling ceiling_count reserved_by pending_of carried_of reading_in readings_of sum_of units unit sum_to difference_weight ends_minus_one difference_product difference_sum scaled_difference new_count behind block_size lower in_front
file_cases =
    record {
      header = refl;
      entries = refl;
      signed = refl;
      size = refl;
      example = prints example_file (settings_of 2 40 64) 4 (example_entries (pos 16448) 0) _ refl refl refl refl refl (λ n. refl);
      short = prints (set example_file 8 9) (settings_of 2 9 64) 4 (example_entries (pos 16448) 0) _ refl refl refl refl refl (λ n. refl);
      negative = prints negative_file (settings_of 4 40 8192) 5 negative_entries _ refl refl refl refl refl (λ n. refl);
      wide_threshold = prints (set example_file 12 1) (settings_of 2 4294967336 64) 4 (example_entries (pos 16448) 0) _ refl refl refl refl refl (λ n. refl);
      large_pending =
          prints (sets (sets (set example_file 4 5) 36 (255 ∷ 255 ∷ 255 ∷ 255 ∷ [])) 48 (255 ∷ 255 ∷ 255 ∷ 255 ∷ [])) (settings_of 2 40 5) 4 large_entries _ refl refl refl refl refl (λ n. refl);
      lines = refl;
      mean_zero = prints (take 24 (set example_file 16 0)) (settings_of 2 40 64) 0 [] _ refl refl refl refl refl (λ n. refl);
      threshold_equal = prints (set example_file 8 100) (settings_of 2 100 64) 4 (example_entries (pos 16448) 0) _ refl refl refl refl refl (λ n. refl);
      threshold_below = prints (set example_file 8 99) (settings_of 2 99 64) 4 (example_entries (pos 16448) 0) _ refl refl refl refl refl (λ n. refl);
      budget_four = prints (set example_file 4 4) (settings_of 2 40 4) 4 (example_entries (pos 16448) 0) _ refl refl refl refl refl (λ n. refl);
      budget_five = prints (set example_file 4 5) (settings_of 2 40 5) 4 (example_entries (pos 16448) 0) _ refl refl refl refl refl (λ n. refl);
      empty = refl;
      nine_axes = refl;
      no_axes = refl;
      no_budget = refl;
      large_budget = refl;
      other_count = prints (set (set example_file 0 1) 48 50) (settings_of 1 40 64) 4 (example_entries (pos 16448) 50) _ refl refl refl refl refl (λ n. refl);
      out_of_range = prints (set example_file 82 16) (settings_of 2 40 64) 4 (example_entries (pos 1065024) 0) _ refl refl refl refl refl (λ n. refl);
      refusal_line = refl;
      many_entries = refl;
      table_offset_lem = refl;
      header_cut = refl;
      before_entries = refl;
      before_offset = refl;
      no_readings = refl;
      many_readings = refl;
      total = refl;
      overlap = refl;
      gap = refl;
      wrong_count = refl;
      few_entries = refl;
      no_table = refl;
      table_cut = refl;
      no_reading = refl;
      early_end = refl;
      too_many = refl;
      after_header = refl;
      no_entries = refl;
      last_count = refl;
      header_first = refl;
      table_first = refl;
      readings_first = refl;
      before_deliveries = refl;
    }

-- ---- a job that reaches a ceiling

-- n readings of 0
abbrev zeros : (indicator n : ℕ) → FileEntry
zeros i n = says i (replicate n (pos 0))

-- with this indicator for level 8
abbrev ceiling_entries : ℕ → List FileEntry
ceiling_entries n = zeros 8 1 ∷ zeros 7 2 ∷ zeros 6 2 ∷ zeros 5 4 ∷ zeros 4 8 ∷ zeros 3 16 ∷ zeros 2 32 ∷ zeros n 64 ∷ zeros 0 1 ∷ zeros 0 1 ∷ []

pub ceiling_file_cases : CeilingFileCases
unfolding bytes_of example_file negative_file ceiling_file entries_from replay four eight signed_four field header_form table_form readings_form form_of readings_at entry_of file_of digits decimal signed_decimal line ending_word report_text refusal_text first_out_of_range delivery_byte by_outcome by_choice start_byte result_in result_of report_values_of text_in text_of axes_fit budget_fit readings_for reading_count least_store start_causes deliver_causes first_cause short in_range any_wanted first_wanted wanted root started deliver promote_step deliver_at delivered refining.promote_within refining.refine refining.make_old refining.made_old choice.choose choice.selected choice.first_active choice.largest choice.is_over choice.is_met refining.fits refining.admitted_axes refining.passing refining.admits refining.backward_old refining.is_old within levels_within excess forward backward all_from same_levels counts_of count_of capped_axes at_ceiling ceiling_count reserved_by pending_of carried_of reading_in readings_of sum_of units unit sum_to difference_weight ends_minus_one difference_product difference_sum scaled_difference new_count behind block_size lower in_front
ceiling_file_cases =
    record {
      ceiling = prints (set ceiling_file 108 9) (settings_of 1 0 129) 10 (ceiling_entries 9) _ refl refl refl refl refl (λ n. refl);
      ceiling_active = prints (set ceiling_file 8 1) (settings_of 1 1 129) 10 (ceiling_entries 1) _ refl refl refl refl refl (λ n. refl);
    }
