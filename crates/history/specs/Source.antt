-- The second demand: the calls follow the published algorithm, Fig. 1 of the source (crate `published`, specs/Figure.antt). That each single
-- step is the rule's is in `CallFacts` (crate `calls`) and `StepFacts` (crate `machine`), that a turn is Fig. 1's in `PublishedFacts`, that
-- the mean is Fig. 1's sum in `SumFacts` (crate `published`), that differences and full tensor rules are the trapezoidal rule's in
-- `TrapezoidalFacts` (crate `grid`) and `RuleFacts` (crate `rule`).
use Rattle.std.specs.Prelude.{◌≡◌, true, ℕ, zero, suc, ◌+◌, ◌*◌, ◌-◌, ◌^◌, ◌<◌, ◌≤◌, pos, ◌+ℤ◌, ◌*ℤ◌, length, take}
use mathlib.Core.List.{List, [], ◌∷◌, ◌++◌, map, Memᴰ}
use Rattle.sums.specs.Sums.{sum_of}
use Rattle.grid.specs.Block.{block}
use Rattle.grid.specs.Terms.{NoDup, tensor_product, centred}
use Rattle.grid.specs.Difference.{scaled_difference}
use Rattle.grid.specs.Coefficient.{coefficient}
use Rattle.grid.specs.Trapezoidal.{trapezoidal_rule, trapezoidal_difference}
use Rattle.area.specs.declared.Settings.{Settings}
use Rattle.area.specs.Settings.{SettingsFit, least_store}
use Rattle.area.specs.Log.{Log}
use Rattle.area.specs.Entry.{delivered_of, reading_in, pending_of, carried_of}
use Rattle.encoding.specs.Entries.{entry_at, EnteredOld, SoundMachine}
use Rattle.machine.specs.Log.{any_wanted, wanted_index, Active}
use Rattle.machine.specs.Choose as choice
use Rattle.machine.specs.Promote as refining
use Rattle.machine.specs.Counts.{count_of}
use Rattle.machine.specs.Admitted.{total_of}
use Rattle.machine.specs.Steps.{start_log, deliver_log}
use Rattle.machine.specs.Causes.{Lengths}
use Rattle.machine.specs.Means.{cross_of}
use Rattle.calls.specs.Replies.{accepted, chosen, promotion}
use Rattle.calls.specs.Table.{Call, start, deliver, choose, promote, Answer, answer}
use Rattle.calls.specs.Calls.{call_on}
use Rattle.published.specs.Figure.{Problem, Figure, increment, loop_condition, select, turn_at, turns, led, selections}
use Rattle.published.specs.Turns.{TurnMade, active_of, wanted_of, not_old_of, SettingsMatch, ReadingValued, Supplied, SuppliedSoFar, Simulates, ExceedsLimits, PromotionFollows}
use Rattle.published.specs.Sums.{SampledFrom}
use Rattle.history.specs.LentCalls.{Part, LentCall, lengths_lent}
use Rattle.history.specs.Logged.{state_of, log_step, log_after, answer_by}
use Rattle.history.specs.Promotions.{promotions_after, AllChosen}
use Rattle.history.specs.Storage.{Storage, area_lent, Lent, AllLent, storage_after, answers_of}
use Rattle.history.specs.Found.{Found}

-- ---- the mean, after every list of calls

-- After every list of the third demand, and whatever integrand the delivered readings come from, each difference is Fig. 1's increment, and
-- the mean is its r: the sum of the increments over the old and the active. Some integrand there always is, since a point is new in one
-- block only. The same stands then over the trapezoidal rule on the job's d axes, f being the integrand with the axes beyond at the centre. The
-- units are those of grid/specs/Trapezoidal.antt (its head): D is 128 times the source's Δ, T 128 times its Q, and a mean is divided by 2^d.
pub record MeanFollows (l : Log) : Type 0 where
  pub difference : (P : Problem) → SampledFrom P l.entries → (k : List ℕ) → Memᴰ k (delivered_of l.entries) → scaled_difference k (reading_in l.entries) ≡ increment P k
  pub sum : (P : Problem) → SampledFrom P l.entries → cross_of l.entries ≡ sum_of (delivered_of l.entries) (increment P)
  pub some : (P : Problem) × (P.axes ≡ l.settings.axes) × ReadingValued P × SampledFrom P l.entries
  -- 256^d times each difference is 2^20 times (D_{k1} ⊗ … ⊗ D_{kd}) f
  pub trapezoidal_difference_lem : (P : Problem) → SampledFrom P l.entries → (k : List ℕ) → Memᴰ k (delivered_of l.entries)
      → pos (256 ^ l.settings.axes) *ℤ scaled_difference k (reading_in l.entries)
      ≡ pos (2 ^ 20) *ℤ tensor_product trapezoidal_difference (take l.settings.axes k) (centred (8 - l.settings.axes) P.integrand)
  -- 256^d times the mean is 2^20 times the sum of these over the old and the active
  pub trapezoidal_mean : (P : Problem) → SampledFrom P l.entries
      → pos (256 ^ l.settings.axes) *ℤ cross_of l.entries
      ≡ pos (2 ^ 20) *ℤ sum_of (delivered_of l.entries)
      (λ k. tensor_product trapezoidal_difference (take l.settings.axes k) (centred (8 - l.settings.axes) P.integrand))
  -- and 2^20 times the sum of (T_{k1} ⊗ … ⊗ T_{kd}) f over them, each times its combination coefficient
  pub trapezoidal_combination : (P : Problem) → SampledFrom P l.entries
      → pos (256 ^ l.settings.axes) *ℤ cross_of l.entries
      ≡ pos (2 ^ 20) *ℤ sum_of (delivered_of l.entries)
      (λ k. coefficient (delivered_of l.entries) k *ℤ tensor_product trapezoidal_rule (take l.settings.axes k) (centred (8 - l.settings.axes) P.integrand))

abbrev pub MeansFollow : Type 0
MeansFollow = (w : Storage) (first : LentCall) (later : List LentCall) (g : Settings) → AllLent w (first ∷ later)
    → first.call ≡ start g → (call_on (area_lent w first.part) (start g)).answer ≡ answer accepted → MeanFollows (log_after (start_log g) later)

-- ---- the state of Fig. 1, after every list of calls

-- The log has the state s of Fig. 1: the same old set, the same active set (also in the same order), the same result, the same pending and the
-- same carried error.
pub record Follows (P : Problem) (l : Log) (s : Figure) : Type 0 where
  -- nothing is left wanted; the readings are the integrand's, the indicators the function's
  pub supplied : Supplied P l.entries
  pub old_there : (k : List ℕ) → EnteredOld l.entries k → Memᴰ k s.old
  pub old_here : (k : List ℕ) → Memᴰ k s.old → EnteredOld l.entries k
  pub active : active_of l.entries ≡ s.active
  pub result : cross_of l.entries ≡ s.result
  pub pending : pending_of l.entries ≡ s.estimate
  pub carried : carried_of l.settings.axes l.entries ≡ s.carried
  -- so that what `PublishedFacts` (crate `published`) says of any active place holds here; the state is sound (`StepsFollow.sound`)
  pub simulates : Simulates P (state_of l) s
  -- choose, called next in storage that is long enough, answers a place exactly if the loop's test holds, and that place, an active one, has the
  -- index that Fig. 1 selects
  pub goes_on_lem : (z : Lengths) → 512 ≤ z.records → least_store l.settings ≤ z.readings → loop_condition P s ≡ true → (p : ℕ) × (answer_by z l choose ≡ answer (chosen (choice.place p)))
  pub place_only : (z : Lengths) (p : ℕ) → answer_by z l choose ≡ answer (chosen (choice.place p))
      → (loop_condition P s ≡ true) × Active l.entries p × ((entry_at l.entries p).levels ≡ select P s)
  -- where the test fails Fig. 1 returns this result, and choose answers *met* if η and carried together are at most TOL, *capped* if they are
  -- above it
  pub over_met : (z : Lengths) → 512 ≤ z.records → least_store l.settings ≤ z.readings → (loop_condition P s ≡ true → ⊥)
      → s.estimate + s.carried ≤ P.tolerance → answer_by z l choose ≡ answer (chosen choice.met)
  pub over_capped : (z : Lengths) → 512 ≤ z.records → least_store l.settings ≤ z.readings → (loop_condition P s ≡ true → ⊥)
      → P.tolerance < s.estimate + s.carried → answer_by z l choose ≡ answer (chosen choice.capped)
  pub met_only : (z : Lengths) → answer_by z l choose ≡ answer (chosen choice.met) → (loop_condition P s ≡ true → ⊥) × (s.estimate + s.carried ≤ P.tolerance)
  pub capped_only : (z : Lengths) → answer_by z l choose ≡ answer (chosen choice.capped) → (loop_condition P s ≡ true → ⊥) × (P.tolerance < s.estimate + s.carried)
  -- promote of an active place is *spent* exactly if after the loop's body with its index 𝒪 and 𝒜 have more than 512 indices, or their blocks
  -- more points than the budget, whatever the loop's test
  pub spent : (z : Lengths) (p : ℕ) → 512 ≤ z.records → least_store l.settings ≤ z.readings → Active l.entries p
      → ExceedsLimits l.settings.budget (turn_at P (entry_at l.entries p).levels s) → answer_by z l (promote p) ≡ answer (promotion refining.spent)
  pub spent_only : (z : Lengths) (p : ℕ) → answer_by z l (promote p) ≡ answer (promotion refining.spent)
      → Active l.entries p × ExceedsLimits l.settings.budget (turn_at P (entry_at l.entries p).levels s)
  -- and *promoted* otherwise
  pub promoted : (z : Lengths) (p : ℕ) → 512 ≤ z.records → least_store l.settings ≤ z.readings → Active l.entries p
      → (ExceedsLimits l.settings.budget (turn_at P (entry_at l.entries p).levels s) → ⊥) → answer_by z l (promote p) ≡ answer (promotion refining.promoted)
  pub promoted_only : (z : Lengths) (p : ℕ) → answer_by z l (promote p) ≡ answer (promotion refining.promoted)
      → Active l.entries p × (ExceedsLimits l.settings.budget (turn_at P (entry_at l.entries p).levels s) → ⊥)
  -- no index stands twice in those 𝒪 and 𝒜, so that it is indices that are counted
  pub once_after : (p : ℕ) → Active l.entries p → NoDup ((turn_at P (entry_at l.entries p).levels s).old ++ (turn_at P (entry_at l.entries p).levels s).active)
  -- a promote that is promoted is, on 𝒪 and 𝒜, the move of its place's index and the scan; the pending error falls by that index's indicator,
  -- and the carried error rises by it where the index has a forward neighbour past a ceiling
  pub promotes : (x : LentCall) (p : ℕ) → x.call ≡ promote p → answer_by (lengths_lent x.part) l (promote p) ≡ answer (promotion refining.promoted)
      → PromotionFollows P s (entry_at l.entries p).levels l.entries (log_step l x).entries
  -- and the mean stays: r and the new indicators follow with the deliveries (`FollowsSoFar`)
  pub promotes_result : (x : LentCall) (p : ℕ) → x.call ≡ promote p → answer_by (lengths_lent x.part) l (promote p) ≡ answer (promotion refining.promoted)
      → cross_of (log_step l x).entries ≡ cross_of l.entries

-- The log at any moment, also between a promotion and its deliveries: its state is the state s of Fig. 1 but for what is wanted.
pub record FollowsSoFar (P : Problem) (l : Log) (s : Figure) : Type 0 where
  -- the old are 𝒪
  pub old_there : (k : List ℕ) → EnteredOld l.entries k → Memᴰ k s.old
  pub old_here : (k : List ℕ) → Memᴰ k s.old → EnteredOld l.entries k
  -- the indices that are not old, in order, are 𝒜
  pub not_old : not_old_of l.entries ≡ s.active
  -- the pending error, with the problem's indicators of the wanted, is η
  pub pending : pending_of l.entries + total_of P.indicator (wanted_of l.entries) ≡ s.estimate
  -- the carried error is the variable of that name beside Fig. 1 (crate `published`, specs/Figure.antt)
  pub carried : carried_of l.settings.axes l.entries ≡ s.carried
  -- the mean, with the increments of the wanted, is r
  pub result : cross_of l.entries +ℤ sum_of (wanted_of l.entries) (increment P) ≡ s.result

-- After every list of the third demand; `is` are the indices made old since its last accepted start, in the order of their promotions
-- (Promotions.antt), whatever places were promoted:
pub record StepsFollow (l : Log) (is : List (List ℕ)) : Type 0 where
  -- the state satisfies the clauses of soundness
  pub sound : SoundMachine (state_of l)
  -- they are as many as there are old indices
  pub count : length is ≡ count_of 2 l.entries
  -- with nothing left wanted, Fig. 1 led by them has the log's state
  pub every : (P : Problem) → SettingsMatch l.settings P → Supplied P l.entries → Follows P l (led P is)
  -- and a problem that gives these readings and indicators there always is
  pub some : (any_wanted l.entries ≡ true → ⊥) → (P : Problem) × SettingsMatch l.settings P × ReadingValued P × Supplied P l.entries
  -- whatever is wanted, it has that state but for the wanted, for every problem that gives what is delivered so far
  pub every_moment : (P : Problem) → SettingsMatch l.settings P → SuppliedSoFar P l.entries → FollowsSoFar P l (led P is)
  -- and such a problem there always is
  pub some_moment : (P : Problem) × SettingsMatch l.settings P × ReadingValued P × SuppliedSoFar P l.entries

abbrev pub StepsFollowAll : Type 0
StepsFollowAll = (w : Storage) (first : LentCall) (later : List LentCall) (g : Settings) → AllLent w (first ∷ later)
    → first.call ≡ start g → (call_on (area_lent w first.part) (start g)).answer ≡ answer accepted
    → StepsFollow (log_after (start_log g) later) (promotions_after (start_log g) [] later)

-- And where each place promoted since the last accepted start was the one that choose would have answered:
pub record RuleFollows (l : Log) (is : List (List ℕ)) : Type 0 where
  -- what was made old is what Fig. 1 selects itself, so that it makes its own turns
  pub own : (P : Problem) → SettingsMatch l.settings P → SuppliedSoFar P l.entries → is ≡ selections P (length is)
  pub itself : (P : Problem) → SettingsMatch l.settings P → SuppliedSoFar P l.entries → led P is ≡ turns P (length is)
  -- and the loop's test held before each of them
  pub went_on : (P : Problem) → SettingsMatch l.settings P → SuppliedSoFar P l.entries → (n : ℕ) → n < length is → loop_condition P (turns P n) ≡ true

abbrev pub RuleFollowsAll : Type 0
RuleFollowsAll = (w : Storage) (first : LentCall) (later : List LentCall) (g : Settings) → AllLent w (first ∷ later)
    → first.call ≡ start g → (call_on (area_lent w first.part) (start g)).answer ≡ answer accepted → AllChosen (start_log g) later
    → RuleFollows (log_after (start_log g) later) (promotions_after (start_log g) [] later)

-- ---- a whole run

-- The delivery of the first wanted block, with the integrand's readings in the block's order and the function's indicator.
unfoldable pub supply_call : Problem → Log → Call
supply_call P l = deliver (map P.integrand (block (wanted_index l.entries))) (P.indicator (wanted_index l.entries))

-- The log after it.
unfoldable pub supplied_log : Problem → Log → Log
supplied_log P l = deliver_log l (map P.integrand (block (wanted_index l.entries))) (P.indicator (wanted_index l.entries))

-- n deliveries.
unfoldable pub supply_calls : Problem → ℕ → Log → List Call
supply_calls P zero l = []
supply_calls P (suc n) l = supply_call P l ∷ supply_calls P n (supplied_log P l)

-- The place that the rule selects.
abbrev pub next_place : Log → ℕ
next_place l = choice.selected l.entries

-- Choose, the promotion of that place, and the deliveries of all that it admitted: nothing is wanted before it, so what is wanted after it is
-- what it admitted.
unfoldable pub turn_calls : Problem → Log → List Call
turn_calls P l = choose ∷ promote (next_place l) ∷ supply_calls P (count_of 0 (refining.promote_at l (next_place l)).log.entries) (refining.promote_at l (next_place l)).log

-- Each call lent the part x.
unfoldable pub lend_all : Part → List Call → List LentCall
lend_all x cs = map (λ (c : Call). record { call = c; part = x }) cs

-- Start and the root's delivery. The settings are to match the problem (`SettingsMatch`).
unfoldable pub begun : Problem → Settings → List Call
begun P g = start g ∷ supply_call P (start_log g) ∷ []

-- These, and then n turns: the calls, and the log after them. Start begins anew, so the log that it finds does not matter.
unfoldable pub log_of : Part → Problem → Settings → (n : ℕ) → Log
log_of x P g zero = log_after (start_log g) (lend_all x (begun P g))
log_of x P g (suc n) = log_after (log_of x P g n) (lend_all x (turn_calls P (log_of x P g n)))

unfoldable pub calls_of : Part → Problem → Settings → (n : ℕ) → List Call
calls_of x P g zero = begun P g
calls_of x P g (suc n) = calls_of x P g n ++ turn_calls P (log_of x P g n)

-- An answer after which a run goes on: accepted, a place, or promoted.
pub data Taken (y : Answer) : Type 0 where
  is_accepted : y ≡ answer accepted → Taken y
  is_chosen : (p : ℕ) → y ≡ answer (chosen (choice.place p)) → Taken y
  is_promoted : y ≡ answer (promotion refining.promoted) → Taken y

pub record RunFollows (w : Storage) (x : Part) (P : Problem) (g : Settings) (n : ℕ) : Type 0 where
  -- no call is refused, every choose answers a place, and every promotion is promoted
  pub answers : (y : Answer) → Memᴰ y (answers_of w (lend_all x (calls_of x P g n))) → Taken y
  pub found : Found (storage_after w (lend_all x (calls_of x P g n))) (log_of x P g n)
  pub follows : Follows P (log_of x P g n) (turns P n)
  -- the loop's test held before each of the turns, so Fig. 1 makes them
  pub went_on : (i : ℕ) → i < n → loop_condition P (turns P i) ≡ true

-- After n turns, as long as choose answers a place before each and its promotion is *promoted* (it is *spent* where the budget or the 512 held
-- end the run), in any storage of which enough is lent, for every integrand whose values are readings.
abbrev pub RunsFollow : Type 0
RunsFollow = (w : Storage) (x : Part) (P : Problem) (g : Settings) (n : ℕ) → Lent w x → 512 * 27 ≤ x.cells → least_store g ≤ x.readings → ReadingValued P → SettingsFit g → SettingsMatch g P
    → ((i : ℕ) → i < n → TurnMade (log_of x P g i)) → RunFollows w x P g n
