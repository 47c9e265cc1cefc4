-- What holds of every call: an accepted one leaves a sound area that holds the machine's next state, a refused one keeps everything, and
-- nothing is written but what the scope document says.
use Rattle.std.specs.Prelude.{◌≡◌, ◌⊎◌, false, ℕ, ◌+◌, ◌<◌, ◌≤◌, ℤ, pos, length, get_or, take, drop}
use mathlib.Core.List.{List, [], ◌∷◌, map, Memᴰ}
use Rattle.area.specs.declared.Settings.{Settings}
use Rattle.area.specs.Encoding.{Area, held_of, entries_of, machine_of}
use Rattle.quadrature.specs.Readings.{record_at}
use Rattle.soundness.specs.Clauses.{is_sound, checked}
use Rattle.encoding.specs.Encodes.{WellFormed}
use Rattle.grid.specs.Block.{block}
use Rattle.machine.specs.Log.{first_wanted, wanted_index}
use Rattle.machine.specs.Choose.{met, capped, place}
use Rattle.machine.specs.Promote.{promoted}
use Rattle.machine.specs.Steps as steps
use Rattle.machine.specs.Steps.{started}
use Rattle.machine.specs.Causes.{Cause}
use Rattle.machine.specs.Facts.{FirstToApply}
use Rattle.machine.specs.Counts.{Counts}
use Rattle.machine.specs.Means.{mean_of}
use Rattle.writing.specs.ValidArea.{ValidArea}
use Rattle.calls.specs.Replies.{refused, accepted, chosen, promotion, counts, total, verdict, lengths_of}
use Rattle.calls.specs.Table.{Call, start, point, points, deliver, choose, promote, result, doubles, cross_total, check, answer, row, causes_of, refused_answer, state_after}
use Rattle.calls.specs.Calls.{call_on}

-- Records past the last then held, and the cells past the last record, are as they were.
pub record PastUnchanged (a b : Area) : Type 0 where
  pub records : drop b.job.held b.run.records ≡ drop b.job.held a.run.records
  pub rest : b.run.rest ≡ a.run.rest

-- The numbers by which a call can be refused: the rows of "Causes and numbers" that name it, and 11 (request No. 4).
unfoldable pub numbers_of : Call → List ℕ
numbers_of (start g) = 1 ∷ 2 ∷ 3 ∷ []
numbers_of (point n buffer) = 3 ∷ 4 ∷ 5 ∷ 9 ∷ []
numbers_of (points n buffer) = 3 ∷ 4 ∷ 5 ∷ 9 ∷ []
numbers_of (deliver rs i) = 3 ∷ 4 ∷ 5 ∷ 7 ∷ 8 ∷ []
numbers_of choose = 3 ∷ 4 ∷ 6 ∷ []
numbers_of (promote p) = 3 ∷ 4 ∷ 6 ∷ 11 ∷ []
numbers_of result = 3 ∷ 4 ∷ []
numbers_of doubles = 3 ∷ 4 ∷ []
numbers_of cross_total = 3 ∷ 4 ∷ []
numbers_of check = []

-- A call's causes, in the order of the table, at what the call is lent.
abbrev pub causes_on : Area → Call → List Cause
causes_on a c = causes_of (lengths_of a) (is_sound a) (machine_of a).log (row c)

-- The store element n lies in the block being delivered.
abbrev pub InBlock : Area → Call → ℕ → Type 0
InBlock a (start g) n = ⊥
InBlock a (point k buffer) n = ⊥
InBlock a (points k buffer) n = ⊥
InBlock a (deliver rs i) n = ((record_at (held_of a) (first_wanted (entries_of a))).first ≤ n) × (n < (record_at (held_of a) (first_wanted (entries_of a))).first + length rs)
InBlock a choose n = ⊥
InBlock a (promote p) n = ⊥
InBlock a result n = ⊥
InBlock a doubles n = ⊥
InBlock a cross_total n = ⊥
InBlock a check n = ⊥

-- The call is not refused.
abbrev pub NotRefused : Area → Call → Type 0
NotRefused a c = (n : ℕ) → (call_on a c).answer.reply ≡ refused n → ⊥

pub record CallFacts : Type 0 where
  -- a refused call keeps everything, the area and the buffer, and each cause is returned by the calls of its row and no other
  pub refused_keeps : (a : Area) (c : Call) (n : ℕ) → (call_on a c).answer.reply ≡ refused n
      → ((call_on a c).area ≡ a) × ((call_on a c).answer ≡ refused_answer n (row c)) × Memᴰ n (numbers_of c)
  -- the numbers of its causes are these, in this order
  pub numbers : (a : Area) (c : Call) → map (λ (x : Cause). x.number) (causes_on a c) ≡ numbers_of c
  -- it is refused by a number exactly if that is the number of the first of its causes that applies, and not refused exactly if none applies
  pub own_case : (a : Area) (c : Call) (n : ℕ) → (call_on a c).answer.reply ≡ refused n → FirstToApply (causes_on a c) n
  pub no_other : (a : Area) (c : Call) (n : ℕ) → FirstToApply (causes_on a c) n → (call_on a c).answer.reply ≡ refused n
  pub none_applies : (a : Area) (c : Call) → NotRefused a c → (x : Cause) → Memᴰ x (causes_on a c) → x.test ≡ false
  pub not_refused : (a : Area) (c : Call) → ((x : Cause) → Memᴰ x (causes_on a c) → x.test ≡ false) → NotRefused a c
  -- an accepted call leaves a valid area: sound, in storage that is long enough, its records well-formed; and what it holds is the machine's
  -- next state. Start asks nothing of the area; check is accepted on any area and leaves it
  pub start_leaves_valid : (a : Area) (g : Settings) → (call_on a (start g)).answer.reply ≡ accepted → ValidArea (call_on a (start g)).area
  pub start_state : (a : Area) (g : Settings) → (call_on a (start g)).answer.reply ≡ accepted → machine_of (call_on a (start g)).area ≡ started g
  pub leaves_valid : (a : Area) (c : Call) → WellFormed (held_of a) → NotRefused a c → (c ≡ check → ⊥) → ValidArea (call_on a c).area
  pub state : (a : Area) (c : Call) → WellFormed (held_of a) → NotRefused a c
      → machine_of (call_on a c).area ≡ state_after (lengths_of a) (is_sound a) (machine_of a) c
  -- which is, of deliver and of promote, the machine's step
  pub deliver_state : (a : Area) (rs : List ℤ) (i : ℕ) → WellFormed (held_of a) → NotRefused a (deliver rs i) → machine_of (call_on a (deliver rs i)).area ≡ steps.deliver (machine_of a) rs i
  pub promote_state : (a : Area) (p : ℕ) → WellFormed (held_of a) → NotRefused a (promote p) → machine_of (call_on a (promote p)).area ≡ steps.promote_step (machine_of a) p
  -- the lengths of the lent storage stay
  pub start_lengths : (a : Area) (g : Settings) → lengths_of (call_on a (start g)).area ≡ lengths_of a
  pub lengths : (a : Area) (c : Call) → WellFormed (held_of a) → lengths_of (call_on a c).area ≡ lengths_of a
  -- no call writes a record past the last then held
  pub past : (a : Area) (c : Call) → PastUnchanged a (call_on a c).area
  -- or a store element outside the block being delivered
  pub store : (a : Area) (c : Call) (n : ℕ) → WellFormed (held_of a) → (InBlock a c n → ⊥) → get_or (call_on a c).area.store n (pos 0) ≡ get_or a.store n (pos 0)
  -- so start and promote write none
  pub start_store : (a : Area) (g : Settings) → (call_on a (start g)).area.store ≡ a.store
  pub promote_store : (a : Area) (p : ℕ) → WellFormed (held_of a) → (call_on a (promote p)).area.store ≡ a.store
  pub deliver_store : (a : Area) (rs : List ℤ) (i n : ℕ) → WellFormed (held_of a)
      → (n < (record_at (held_of a) (first_wanted (entries_of a))).first) ⊎ ((record_at (held_of a) (first_wanted (entries_of a))).first + length rs ≤ n)
      → get_or (call_on a (deliver rs i)).area.store n (pos 0) ≡ get_or a.store n (pos 0)
  -- the readings are stored from the block's first reading on
  pub deliver_stored : (a : Area) (rs : List ℤ) (i n : ℕ) → WellFormed (held_of a) → (call_on a (deliver rs i)).answer.reply ≡ accepted → n < length rs
      → get_or (call_on a (deliver rs i)).area.store ((record_at (held_of a) (first_wanted (entries_of a))).first + n) (pos 0) ≡ get_or rs n (pos 0)
  -- choose changes nothing, whatever it answers
  pub choose_unchanged : (a : Area) → (call_on a choose).area ≡ a
  -- whatever is not promoted changes nothing: spent or a refusal
  pub promote_unchanged : (a : Area) (p : ℕ) → ((call_on a (promote p)).answer.reply ≡ promotion promoted → ⊥) → (call_on a (promote p)).area ≡ a
  -- point writes the first d positions of the block's n-th point; the buffer stays as long, and its later bytes are untouched
  pub point_written_lem : (a : Area) (n : ℕ) (buffer : List ℕ) → NotRefused a (point n buffer)
      → take a.job.settings.axes (call_on a (point n buffer)).answer.buffer ≡ take a.job.settings.axes (get_or (block (wanted_index (entries_of a))) n [])
  pub point_length : (a : Area) (n : ℕ) (buffer : List ℕ) → length (call_on a (point n buffer)).answer.buffer ≡ length buffer
  pub point_later : (a : Area) (n i : ℕ) (buffer : List ℕ) → a.job.settings.axes ≤ i → get_or (call_on a (point n buffer)).answer.buffer i 0 ≡ get_or buffer i 0
  -- result's reserved, pending and carried error and mean are the recorded ones
  pub result_recorded : (a : Area) (c : Counts) → (call_on a result).answer.reply ≡ counts c
      → (c.reserved ≡ a.job.reserved) × (c.pending ≡ a.job.pending) × (c.carried ≡ a.job.carried) × (c.mean ≡ a.job.mean)
  -- by which choose goes: it is met only where the recorded errors together are at most the threshold, capped only where the pending error alone
  -- is, and a place only where not even that is
  pub met_recorded : (a : Area) → (call_on a choose).answer.reply ≡ chosen met → a.job.pending + a.job.carried ≤ a.job.settings.threshold
  pub capped_recorded : (a : Area) → (call_on a choose).answer.reply ≡ chosen capped
      → (a.job.pending ≤ a.job.settings.threshold) × (a.job.settings.threshold < a.job.pending + a.job.carried)
  pub place_recorded : (a : Area) (p : ℕ) → (call_on a choose).answer.reply ≡ chosen (place p) → a.job.settings.threshold < a.job.pending
  -- and a place that it answers is that of an active record, one of at most 512
  pub place_active : (a : Area) (p : ℕ) → (call_on a choose).answer.reply ≡ chosen (place p) → (p < a.job.held) × ((record_at (held_of a) p).state ≡ 1) × (p < 512)
  -- in any sound area the cross total, worked out from the readings, is the sum of the delivered indices' differences
  pub cross_mean : (a : Area) (x : ℤ) → (call_on a cross_total).answer.reply ≡ total x → x ≡ mean_of (entries_of a)
  -- check answers by the clauses and the storage test, and changes nothing
  pub check_answer : (a : Area) → call_on a check ≡ record { answer = answer (verdict (checked a)); area = a }
  -- start's answer, new job record and record 0 depend on its arguments and the lengths alone
  pub start_answer : (a b : Area) (g : Settings) → lengths_of a ≡ lengths_of b → (call_on a (start g)).answer ≡ (call_on b (start g)).answer
  pub start_job : (a b : Area) (g : Settings) → lengths_of a ≡ lengths_of b → (call_on a (start g)).answer.reply ≡ accepted
      → ((call_on a (start g)).area.job ≡ (call_on b (start g)).area.job) × (record_at (call_on a (start g)).area.run.records 0 ≡ record_at (call_on b (start g)).area.run.records 0)
