-- Soundness as a Boolean, for definitions that ask whether an area is sound. Each field of `Structure` and of `Sound` has one definition
-- here, in the same order and with the same words, worked by searching through all places; the job record's numbers have one together, and
-- that of the settings is `settings_fit` (crate `area`). It is never run, so it may be slow; the check that is run follows links (`Test`,
-- `Totals`). `cond b c true` says: if b then c.
use Rattle.std.specs.Prelude.{Bool, true, not, cond, ◌&&◌, List, ℕ, ◌+◌, ◌*◌, ◌-◌, ◌^◌, ltb, leb, eqb, ℤ, pos, nat_abs, length, get_or}
use Rattle.sums.specs.Sums.{nat_sum_to}
use Rattle.grid.specs.Index.{level, within, root, forward, backward}
use Rattle.grid.specs.Coefficient.{same_levels}
use Rattle.area.specs.declared.IndexRecord.{IndexRecord}
use Rattle.area.specs.declared.Settings.{Settings}
use Rattle.area.specs.Settings.{SettingsFit, settings_fit, reading_count, least_store}
use Rattle.area.specs.Entry.{delivered_of, reserved_by, pending_of, carried_of}
use Rattle.area.specs.Encoding.{Area, held_of, entries_of, none}
use Rattle.quadrature.specs.Readings.{record_at}
use Rattle.soundness.specs.Held.{levels_at, state_at, forward_link, backward_link}
use Rattle.soundness.specs.Sound.{Sound, LongEnough, Exactly}
use Rattle.soundness.specs.Test.{all_from, any_from}

-- k is held; k is held and old.
unfoldable pub is_held : List IndexRecord → List ℕ → Bool
is_held rs k = any_from (length rs) 0 (λ p. same_levels (levels_at rs p) k)

unfoldable pub is_held_old : List IndexRecord → List ℕ → Bool
is_held_old rs k = any_from (length rs) 0 (λ p. same_levels (levels_at rs p) k && eqb (state_at rs p) 2)

-- An index of a job with d axes, as eight levels, within the ceilings, level 1 beyond axis d.
unfoldable pub is_index : ℕ → List ℕ → Bool
is_index d k = eqb (length k) 8 && within k && all_from (8 - d) d (λ a. eqb (level k a) 1)

-- A link names exactly the held neighbour: the place that holds it, and none if no place does.
unfoldable pub names : List IndexRecord → List ℕ → ℕ → Bool
names rs neighbour link =
    all_from (length rs) 0 (λ q. cond (same_levels (levels_at rs q) neighbour) (eqb link q) true)
    && cond (not (is_held rs neighbour)) (eqb link none) true

-- A reading is a signed whole number from −1,048,576 to 1,048,576.
unfoldable pub is_reading : ℤ → Bool
is_reading x = leb (nat_abs x) 1048576

-- ---- the clauses on the held indices and their links

-- levels and excess are in range; levels beyond axis d are 1
unfoldable pub index_clause : ℕ → List IndexRecord → Bool
index_clause d rs = all_from (length rs) 0 (λ p. is_index d (levels_at rs p))

-- links beyond axis d are none
unfoldable pub beyond_clause : ℕ → List IndexRecord → Bool
beyond_clause d rs =
    all_from (length rs) 0 (λ p. all_from (8 - d) d (λ a. eqb (forward_link rs p a) none && eqb (backward_link rs p a) none))

-- each state is one of the three
unfoldable pub states_clause : List IndexRecord → Bool
states_clause rs = all_from (length rs) 0 (λ p. leb (state_at rs p) 2)

-- the held are 1 to 512, all different, the root first
unfoldable pub count_clause : List IndexRecord → Bool
count_clause rs = leb 1 (length rs) && leb (length rs) 512

unfoldable pub different_clause : List IndexRecord → Bool
different_clause rs =
    all_from (length rs) 0 (λ p. all_from (length rs) 0 (λ q. cond (same_levels (levels_at rs p) (levels_at rs q)) (eqb p q) true))

unfoldable pub first_clause : List IndexRecord → Bool
first_clause rs = same_levels (levels_at rs 0) root

-- along every axis above level 1 the backward neighbour of k is held and old
unfoldable pub old_behind : ℕ → List IndexRecord → List ℕ → Bool
old_behind d rs k = all_from d 0 (λ a. cond (ltb 1 (level k a)) (is_held_old rs (backward k a)) true)

-- their backward neighbours are old
unfoldable pub behind_clause : ℕ → List IndexRecord → Bool
behind_clause d rs = all_from (length rs) 0 (λ p. old_behind d rs (levels_at rs p))

-- k is held if it is admissible
unfoldable pub held_if_admissible : ℕ → List IndexRecord → List ℕ → Bool
held_if_admissible d rs k = cond (is_index d k && old_behind d rs k) (is_held rs k) true

-- all indices so admissible are held. An admissible index is the root, or it has a backward neighbour, which is old; so it is enough to
-- look at the root and at the forward neighbours of the old indices.
unfoldable pub admissible_clause : ℕ → List IndexRecord → Bool
admissible_clause d rs =
    held_if_admissible d rs root
    && all_from (length rs) 0 (λ p. cond (eqb (state_at rs p) 2) (all_from d 0 (λ a. held_if_admissible d rs (forward (levels_at rs p) a))) true)

-- links name exactly the held neighbours; along an axis at level 1 there is no backward one
unfoldable pub forward_links_clause : ℕ → List IndexRecord → Bool
forward_links_clause d rs = all_from (length rs) 0 (λ p. all_from d 0 (λ a. names rs (forward (levels_at rs p) a) (forward_link rs p a)))

unfoldable pub backward_links_clause : ℕ → List IndexRecord → Bool
backward_links_clause d rs =
    all_from (length rs) 0 (λ p.
    all_from d 0 (λ a. cond (ltb 1 (level (levels_at rs p) a)) (names rs (backward (levels_at rs p) a) (backward_link rs p a)) true))

unfoldable pub no_backward_link_clause : ℕ → List IndexRecord → Bool
no_backward_link_clause d rs =
    all_from (length rs) 0 (λ p. all_from d 0 (λ a. cond (eqb (level (levels_at rs p) a) 1) (eqb (backward_link rs p a) none) true))

-- All of them. d is the number of axes, rs the held records.
unfoldable pub structure_clause : ℕ → List IndexRecord → Bool
structure_clause d rs =
    index_clause d rs
    && beyond_clause d rs
    && states_clause rs
    && count_clause rs
    && different_clause rs
    && first_clause rs
    && behind_clause d rs
    && admissible_clause d rs
    && forward_links_clause d rs
    && backward_links_clause d rs
    && no_backward_link_clause d rs

-- ---- the clauses on the whole area

-- the held records lie in the lent run
unfoldable pub held_lent_clause : Area → Bool
held_lent_clause a = leb a.job.held (length a.run.records)

-- wanted records come last with indicator 0
unfoldable pub wanted_last_clause : Area → Bool
wanted_last_clause a =
    all_from (length (held_of a)) 0 (λ p.
    all_from (length (held_of a)) 0 (λ q. cond (leb p q && eqb (state_at (held_of a) p) 0) (eqb (state_at (held_of a) q) 0) true))

unfoldable pub wanted_indicator_zero_clause : Area → Bool
wanted_indicator_zero_clause a =
    all_from (length (held_of a)) 0 (λ p. cond (eqb (state_at (held_of a) p) 0) (eqb (record_at (held_of a) p).indicator 0) true)

-- first readings are the running sum of block sizes, in readings
unfoldable pub first_readings_clause : Area → Bool
first_readings_clause a =
    all_from (length (held_of a)) 0 (λ p. eqb (record_at (held_of a) p).first (nat_sum_to p (λ q. reading_count a.job.settings (levels_at (held_of a) q))))

-- delivered readings are in range
unfoldable pub readings_clause : Area → Bool
readings_clause a =
    all_from (length (held_of a)) 0 (λ p.
    cond (leb 1 (state_at (held_of a) p))
    (all_from (reading_count a.job.settings (levels_at (held_of a) p)) 0 (λ n.
    ltb ((record_at (held_of a) p).first + n) (length a.store) && is_reading (get_or a.store ((record_at (held_of a) p).first + n) (pos 0)))) true)

-- the job record's own numbers: reserved is the sum of the held blocks' sizes and within the budget; the pending error is the active sum;
-- the carried error is the sum over the old at a ceiling; the scaled mean is in size at most the delivered count times 2^40
unfoldable pub numbers_clause : Area → Bool
numbers_clause a =
    eqb a.job.reserved (reserved_by (entries_of a))
    && leb a.job.reserved a.job.settings.budget
    && eqb a.job.pending (pending_of (entries_of a))
    && eqb a.job.carried (carried_of a.job.settings.axes (entries_of a))
    && leb (nat_abs a.job.mean) (length (delivered_of (entries_of a)) * 2 ^ 40)

-- Whether an area is sound: the clauses, in order.
unfoldable pub is_sound : Area → Bool
is_sound a =
    held_lent_clause a
    && settings_fit a.job.settings
    && structure_clause a.job.settings.axes (held_of a)
    && wanted_last_clause a
    && wanted_indicator_zero_clause a
    && first_readings_clause a
    && readings_clause a
    && numbers_clause a

-- **Check** answers yes exactly if the area is sound; it says no to short storage.
unfoldable pub checked : Area → Bool
checked a = leb 512 (length a.run.records) && leb (least_store a.job.settings) (length a.store) && is_sound a

-- They say yes exactly if the area is sound, and lies in storage that is long enough, whatever the area.
pub record ClauseFacts : Type 0 where
  pub agree : (a : Area) → Exactly (is_sound a) (Sound a)
  pub answer : (a : Area) → Exactly (checked a) (LongEnough a × Sound a)
  -- and so do the settings' Booleans
  pub settings : (g : Settings) → Exactly (settings_fit g) (SettingsFit g)
