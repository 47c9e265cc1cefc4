-- What the statements shut out: by the laws of the causes, and by computation.
-- Assumes nothing.
use mathlib.Core.Path.{◌≡◌, refl, ap, sym, ◌∙◌}
use mathlib.Core.Bool.{true, false}
use Prim.Native.Nat.{ℕ, ◌<◌, ◌≤◌}
use native.Mathlib.Omega.{arith}
use lib.ListN.{length}
use Rattle.sums.specs.Sums.{sum_to, sum_of}
use Rattle.rule.specs.Points.{new_points, new_count, new_point}
use Rattle.rule.specs.Rules.{unit}
use Rattle.rule.specs.Weights.{whole_weight, ends_one, difference_weight}
use Rattle.grid.specs.Index.{root, excess, levels_within, within, capped_axes, at_ceiling, forward, backward}
use Rattle.grid.specs.Block.{directed, turned, rows, block_after, block, block_size, point_after, point_of}
use Rattle.grid.specs.Difference.{units, behind}
use Rattle.grid.specs.Tensor.{tensor_sum, tensor_rule}
use Rattle.grid.specs.Coefficient.{same_levels, is_in, subsets, sign, raised_on, coefficient}
use Rattle.grid.specs.Cross as grid-cross
use Rattle.grid.specs.Boundary.{pair}
use Rattle.area.specs.Entry.{delivered_of, readings_of, reading_in, reserved_by, pending_of, carried_of}
use Rattle.soundness.specs.Test.{all_from}
use Rattle.soundness.proofs.Exactly.{refuted}
use Rattle.area.specs.Settings.{axes_fit, budget_fit, readings_for, reading_count, least_store}
use Rattle.area.specs.Log.{Log}
use Rattle.machine.specs.Log.{wanted, first_wanted, any_wanted, wanted_index, Active, active_at}
use Rattle.machine.specs.Choose as choice
use Rattle.machine.specs.Promote as refining
use Rattle.machine.specs.Points.{points_fitting, positions_of, written_over}
use Rattle.machine.proofs.ActivePlaces.{reads_active, place-facts}
use Rattle.machine.proofs.Answers.{promoted_log}
use Rattle.machine.proofs.Choices.{choose-facts}
use Rattle.machine.proofs.Spent.{admitted_facts}
use Rattle.machine.specs.Steps as steps
use Rattle.machine.specs.Steps.{deliver_at, delivered}
use Rattle.machine.specs.Areas.{refine_on}
use Rattle.machine.specs.Causes.{Lengths, first_cause, short, in_range, start_causes, point_causes, deliver_causes, choose_causes, promote_causes, result_causes}
use Rattle.machine.specs.Counts.{count_of, ceiling_count, counts_of}
use Rattle.machine.specs.Means.{cross_of}
use Rattle.counting.specs.Doubles.{doubles_of}
use Rattle.calls.specs.Replies.{refused, accepted, chosen, promotion, counts, doubled, total, lengths_of}
use Rattle.calls.specs.Table.{point, points, deliver, choose, promote, result, doubles, cross_total, Answer, answer, promotion_effect, row, causes_of, effect_of, passes_check, accepted_answer, refused_answer, refusal, answer_of, changed, state_after}
use Rattle.wihupya.specs.Words.{low_word, high_word}
use Rattle.wihupya.specs.Exports.{number_of, choice_words, outcome_word, count_words, total_words, answer_words}
use Rattle.soundness.specs.Clauses.{is_sound}
use Rattle.soundness.proofs.Clauses.{clause_facts}
use Rattle.writing.specs.ValidArea.{ValidArea}
use Rattle.area.specs.Encoding.{Area, entries_of, machine_of}
use lib.IntN.{ℤ}
use mathlib.Core.List.{List}
use Rattle.calls.specs.Calls.{CallResult, call_on}
use Rattle.calls.proofs.Tests as tests
use Rattle.calls.specs.Points.{WrotePoints}
use Rattle.calls.proofs.CauseCases.{call_accepts}
use Rattle.calls.proofs.Causes as causes
use Rattle.calls.proofs.Causes.{common_none, start_fits, deliver-fits, point_fits, choose_free, promote_active}
use Rattle.calls.proofs.Rows.{start_accepts, deliver_accepts, point_accepts, points_accepts, choose_accepts, promote_accepts, result_accepts, cross_accepts}
use Rattle.calls.proofs.PointsWritten.{points-facts}
use Rattle.history.specs.Logged.{state_of, refusal_by, log_step, answer_by, answers_by}
use Rattle.history.specs.OnExports.{call_of, verdict_number, export_answer, export_answers_by}
use Rattle.history.specs.Excluded.{Excluded, file_calls, answers_after, file_exports, CallCases}

-- ---- in a valid area no cause but a call's own refuses it
module _ (a : Area) (s : ValidArea a) where
  abbrev l : Log
  l = (machine_of a).log

  clear : first_cause (result_causes (lengths_of a) (is_sound a) l) ≡ 0
  unfolding machine_of
  clear = common_none (lengths_of a) (is_sound a) l (tests.enough (lengths_of a) a.job.settings s.lent.records s.lent.store) ((clause_facts.agree a).back s.sound)

  delivery_accepted : (rs : List ℤ) (i : ℕ) → any_wanted (entries_of a) ≡ true → length rs ≡ reading_count a.job.settings (wanted_index (entries_of a)) → in_range rs ≡ true
      → (call_on a (deliver rs i)).answer ≡ answer accepted
  unfolding machine_of
  delivery_accepted rs i some whole range =
      ap (λ (y : CallResult). y.answer) (sym (deliver_accepts a rs i _ refl (deliver-fits (lengths_of a) (is_sound a) l rs clear some whole range)))

  module _ (n : ℕ) (buffer : List ℕ) (some : any_wanted (entries_of a) ≡ true) (inside : n < block_size (wanted_index (entries_of a))) (room : a.job.settings.axes ≤ length buffer) where
    no_cause : first_cause (point_causes (lengths_of a) (is_sound a) l n (length buffer)) ≡ 0
    unfolding machine_of
    no_cause = point_fits (lengths_of a) (is_sound a) l n (length buffer) room clear some inside

    point_accepted : (call_on a (point n buffer)).answer.reply ≡ accepted
    point_accepted = ap (λ (y : Answer). y.reply) (sym (point_accepts a n buffer _ refl no_cause))

    points_accepted : (written : ℕ) × WrotePoints a n buffer written
    points_accepted = points-facts.writes a n buffer not_refused
      where
        not_refused : (m : ℕ) → (call_on a (points n buffer)).answer.reply ≡ refused m → ⊥
        not_refused m e =
            let same = ap (λ (y : Answer). y.reply) (points_accepts a n buffer _ refl no_cause) ∙ e in
            let y : ◌≡◌ {A = ℕ} 0 1 = cc in
            omega arith

  module _ (none : any_wanted (entries_of a) ≡ false) where
    choice_clear : first_cause (choose_causes (lengths_of a) (is_sound a) l) ≡ 0
    unfolding machine_of
    choice_clear = choose_free (lengths_of a) (is_sound a) l clear none

    choice_accepted : (call_on a choose).answer ≡ answer (chosen (choice.choose l))
    choice_accepted = sym (choose_accepts a _ refl choice_clear)

    promotion_accepted : (p : ℕ) → Active (entries_of a) p → (call_on a (promote p)).answer ≡ answer (promotion (refining.promote_at l p).outcome)
    unfolding machine_of refine_on
    promotion_accepted p h =
        ap (λ (y : CallResult). y.answer)
        (sym (promote_accepts a p _ refl (promote_active (lengths_of a) (is_sound a) l p choice_clear (place-facts.back (entries_of a) p h))))

  result_accepted : (call_on a result).answer ≡ answer (counts (counts_of (machine_of a)))
  result_accepted = sym (result_accepts a _ refl clear)

  doubles_accepted : (call_on a doubles).answer ≡ answer (doubled (doubles_of (machine_of a)))
  unfolding accepted_answer row refusal causes_of result_causes
  doubles_accepted = ap (λ (y : CallResult). y.answer) (sym (call_accepts a doubles _ refl clear))

  cross_accepted : (call_on a cross_total).answer ≡ answer (total (cross_of (entries_of a)))
  cross_accepted = sym (cross_accepts a _ refl clear)

-- ---- by the log, in storage that is long enough
module _ (z : Lengths) (l : Log) (long : 512 ≤ z.records) (room : least_store l.settings ≤ z.readings) where
  none : first_cause (result_causes z true l) ≡ 0
  none = common_none z true l (tests.enough z l.settings long room) refl

  wanted_six : any_wanted l.entries ≡ true → first_cause (choose_causes z true l) ≡ 6
  wanted_six w = causes.choose_wanted z true l none w

  while_wanted : (p : ℕ) → any_wanted l.entries ≡ true → (refusal_by z l choose ≡ 6) × (refusal_by z l (promote p) ≡ 6)
  unfolding refusal causes_of row choose_causes promote_causes
  while_wanted p w = (wanted_six w, causes.promote_as_choose z true l p (λ e. omega (arith, e, wanted_six w)) ∙ wanted_six w)

  choices : any_wanted l.entries ≡ false → refusal_by z l choose ≡ 0
  unfolding refusal causes_of row choose_causes
  choices w = choose_free z true l none w

  promotions : (p : ℕ) → any_wanted l.entries ≡ false → Active l.entries p → refusal_by z l (promote p) ≡ 0
  unfolding refusal causes_of row promote_causes
  promotions p w a = promote_active z true l p (choose_free z true l none w) (place-facts.back l.entries p a)

  no_place : (p : ℕ) → any_wanted l.entries ≡ false → (Active l.entries p → ⊥) → refusal_by z l (promote p) ≡ 11
  unfolding refusal causes_of row promote_causes
  no_place p w n = causes.promote_not-active z true l p (choose_free z true l none w) (refuted (active_at l.entries p) (reads_active l.entries p) n)

pub excluded : Excluded
excluded =
    record {
      starts = λ a g fit long room.
          ap (λ (y : CallResult). y.answer)
          (sym (start_accepts a g _ refl (start_fits (lengths_of a) g fit (tests.enough (lengths_of a) g long room))));
      accepted_deliveries = λ a rs i s. delivery_accepted a s rs i;
      accepted_point = λ a n buffer s. point_accepted a s n buffer;
      accepted_points = λ a n buffer s. points_accepted a s n buffer;
      accepted_choice = choice_accepted;
      accepted_promotion = λ a p s none h. promotion_accepted a s none p h;
      accepted_result = result_accepted;
      accepted_doubles = doubles_accepted;
      accepted_cross = cross_accepted;
      deliveries = λ z l rs i long room some whole range. unfold refusal causes_of row deliver_causes in deliver-fits z true l rs (common_none z true l (tests.enough z l.settings long room) refl) some whole range;
      while_wanted = λ z l p long room. while_wanted z l long room p;
      choices = choices;
      promotions = λ z l p long room. promotions z l long room p;
      no_place = λ z l p long room. no_place z l long room p;
      means = unfold cross_of grid-cross.cross_total delivered_of reading_in readings_of deliver_at delivered first_wanted wanted root coefficient sum_of subsets sign raised_on is_in same_levels tensor_rule tensor_sum units unit sum_to whole_weight ends_one new_count behind block_size in (refl, refl);
      started = λ g. unfold wanted in refl;
      delivered = λ g i rs. unfold wanted deliver_at delivered first_wanted in refl;
      refines = λ l p. promoted_log l.settings.budget l p;
      later_means = unfold cross_of grid-cross.cross_total delivered_of reading_in readings_of coefficient sum_of subsets sign raised_on is_in same_levels tensor_rule tensor_sum units unit sum_to whole_weight ends_one new_count behind block_size pair in (refl, refl);
      reserved_counted = unfold reserved_by block_size new_count pair in refl;
      states_counted = unfold counts_of count_of state_of in (refl, refl, refl);
      carried_counted = unfold counts_of state_of carried_of at_ceiling within levels_within excess forward pair in refl;
      ceiling_counted = unfold counts_of state_of ceiling_count capped_axes within levels_within excess forward pair in refl;
      chooses = choose-facts;
      promotes = admitted_facts;
      four_held_lem = unfold refining.promote_within refining.refine refining.make_old refining.made_old refining.fits refining.admitted_axes refining.passing refining.admits refining.backward_old refining.is_old within levels_within excess forward backward all_from same_levels pair reserved_by block_size new_count wanted in refl;
      one_old = unfold refining.admits refining.backward_old refining.is_old within levels_within excess forward backward all_from same_levels pair in refl;
      both_old = unfold refining.admits refining.backward_old refining.is_old within levels_within excess forward backward all_from same_levels pair in refl;
      level_one = unfold refining.admits refining.backward_old refining.is_old within levels_within excess forward backward all_from same_levels pair in refl;
      centre = unfold difference_weight in refl;
      wanted_out = unfold coefficient delivered_of sum_of subsets sign raised_on is_in same_levels pair in refl;
    }

pub call_cases : CallCases
unfolding answers_after axes_fit budget_fit readings_for reading_count least_store start_causes point_of point_after turned new_point answers_by answer_by answer_of accepted_answer refused_answer passes_check refusal causes_of effect_of row promotion_effect changed state_after state_of log_step file_calls first_cause short in_range any_wanted active_at first_wanted wanted root steps.started steps.deliver steps.promote_step deliver_at delivered refining.promote_within refining.refine refining.make_old refining.made_old choice.choose choice.selected choice.first_active choice.largest choice.is_over choice.is_met refining.fits refining.admitted_axes refining.passing refining.admits refining.backward_old refining.is_old within levels_within excess forward backward all_from same_levels counts_of count_of capped_axes at_ceiling ceiling_count reserved_by pending_of carried_of cross_of grid-cross.cross_total delivered_of reading_in readings_of coefficient sum_of subsets sign raised_on is_in tensor_rule tensor_sum units unit sum_to whole_weight ends_one new_count behind block_size points_fitting positions_of written_over block block_after rows directed new_points call_of verdict_number export_answer export_answers_by file_exports low_word high_word number_of answer_words choice_words outcome_word count_words total_words pair
call_cases = record { capped_word = refl; met_carried = refl; capped_together = refl; met_together = refl; large_carried = refl; large_pending = refl; number_returned = λ n. refl; between = refl; many_points = refl; mean_zero = refl; threshold_equal = refl; budget_four = refl; budget_five = refl; met_and_spent = refl; root_wanted = refl; any_place = refl; file = refl; start_order = refl; wanted_order = refl; delivered_order = refl; file_words = refl; other_words = refl; ceiling_axes = (refl, refl, refl) }
