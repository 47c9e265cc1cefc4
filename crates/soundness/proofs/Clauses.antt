-- The Boolean of soundness is true exactly if the area is sound, whatever the area.
-- The idea: each clause reads as its field, and clauses are joined as fields are. An admissible index is the root or the forward
-- neighbour of an old index, so looking at those is looking at all.
-- Assumes nothing.
use mathlib.Core.Path.{◌≡◌, sym, ap, ◌∙◌, subst}
use mathlib.Core.Logic.{◌⊎◌, inl, inr}
use mathlib.Core.Bool.{Bool, ◌&&◌}
use mathlib.Core.List.{List}
use Prim.Native.Nat.{ℕ, ◌+◌, ◌*◌, ◌-◌, ◌^◌, ◌<◌, ◌≤◌}
use native.Mathlib.Omega.{arith}
use lib.IntN.{pos, nat_abs}
use lib.ListN.{length, get_or}
use Rattle.sums.specs.Sums.{nat_sum_to}
use Rattle.grid.specs.Index.{level, Index, root, forward, backward}
use Rattle.grid.specs.Terms.{IsReading}
use Rattle.grid.proofs.Levels.{within_sure, within_back}
use Rattle.grid.proofs.Neighbours.{forward_backward}
use Rattle.area.specs.declared.IndexRecord.{IndexRecord}
use Rattle.area.specs.Settings.{reading_count, least_store}
use Rattle.area.specs.Entry.{delivered_of, reserved_by, pending_of, carried_of}
use Rattle.area.specs.Encoding.{Area, held_of, entries_of, none}
use Rattle.quadrature.specs.Readings.{record_at}
use Rattle.soundness.specs.Held.{levels_at, state_at, forward_link, backward_link, Held, HeldOld}
use Rattle.soundness.specs.Sound.{Names, Structure, NumbersSound, Sound, LongEnough, Exactly}
use Rattle.soundness.specs.Test.{all_from}
use Rattle.soundness.specs.Clauses.{is_held, is_held_old, is_index, names, is_reading, index_clause, beyond_clause, states_clause, count_clause, different_clause, first_clause, old_behind, behind_clause, held_if_admissible, admissible_clause, forward_links_clause, backward_links_clause, no_backward_link_clause, structure_clause, held_lent_clause, wanted_last_clause, wanted_indicator_zero_clause, first_readings_clause, readings_clause, numbers_clause, is_sound, ClauseFacts, checked}
use Rattle.soundness.proofs.Exactly.{reads_as, reads_eq, reads_lt, reads_le, reads_not, reads_and, reads_if, reads_all_from, reads_all, reads_any, reads_same}
use Rattle.soundness.proofs.Settings.{reads_settings}
use Rattle.soundness.proofs.Levels.{axis_of, root_or}

infixl 35 ◌and◌
-- joined as the clauses are, from the left
◌and◌ : {b c : Bool} {P Q : Type 0} → Exactly b P → Exactly c Q → Exactly (b && c) (P × Q)
◌and◌ {b} {c} r s = reads_and b c r s

-- a test of every pair
reads_pairs : {f : ℕ → ℕ → Bool} {P : ℕ → ℕ → Type 0} (m n : ℕ) → ((p a : ℕ) → Exactly (f p a) (P p a))
    → Exactly (all_from m 0 (λ p. all_from n 0 (λ a. f p a))) ((p a : ℕ) → p < m → a < n → P p a)
reads_pairs m n r = reads_as (λ g p a h i. g p h a i) (λ g p h a i. g p a h i) (reads_all _ _ m (λ p h. reads_all _ _ n (λ a i. r p a)))

-- a test of every axis beyond d
reads_beyond : {f : ℕ → Bool} {P : ℕ → Type 0} (d : ℕ) → ((a : ℕ) → Exactly (f a) (P a)) → Exactly (all_from (8 - d) d f) ((a : ℕ) → d ≤ a → a < 8 → P a)
reads_beyond d r = reads_as (λ g a l h. g a l (omega arith)) (λ g a l h. g a l (omega arith)) (reads_all_from _ _ (8 - d) d (λ a h. r a))

reads_index : (d : ℕ) (k : List ℕ) → Exactly (is_index d k) (Index d k)
unfolding is_index
reads_index d k =
    reads_as (λ x. record { eight = x.0.0; ceilings = x.0.1; beyond = x.1 }) (λ i. ((i.eight, i.ceilings), i.beyond))
    (reads_eq (length k) 8 and record { sure = within_sure k; back = within_back k } and reads_beyond d (λ a. reads_eq (level k a) 1))

module _ (rs : List IndexRecord) where
  reads_held : (k : List ℕ) → Exactly (is_held rs k) (Held rs k)
  unfolding is_held
  reads_held k =
      reads_as (λ s. (s.0, record { place = s.1; same = s.2 })) (λ s. (s.0, s.1.place, s.1.same))
      (reads_any _ _ (length rs) (λ p h. reads_same (levels_at rs p) k))

  reads_held_old : (k : List ℕ) → Exactly (is_held_old rs k) (HeldOld rs k)
  unfolding is_held_old
  reads_held_old k =
      reads_as (λ s. (s.0, record { place = s.1; same = s.2.0 }, s.2.1)) (λ s. (s.0, s.1.place, (s.1.same, s.2)))
      (reads_any _ _ (length rs) (λ p h. reads_same (levels_at rs p) k and reads_eq (state_at rs p) 2))

  reads_names : (k : List ℕ) (link : ℕ) → Exactly (names rs k link) (Names rs k link)
  unfolding names
  reads_names k link =
      reads_as (λ x. record { place = λ q s. x.0 q s.place s.same; otherwise = x.1 })
      (λ n. (λ q h e. n.place q (record { place = h; same = e }), n.otherwise))
      (reads_all _ _ (length rs) (λ q h. reads_if _ _ (reads_same (levels_at rs q) k) (reads_eq link q))
      and reads_if _ _ (reads_not _ (reads_held k)) (reads_eq link none))

module _ (d : ℕ) (rs : List IndexRecord) where
  -- the backward neighbours of k are held and old
  abbrev OldBehind : List ℕ → Type 0
  OldBehind k = (a : ℕ) → a < d → 1 < level k a → HeldOld rs (backward k a)

  reads_old_behind : (k : List ℕ) → Exactly (old_behind d rs k) (OldBehind k)
  unfolding old_behind
  reads_old_behind k = reads_all _ _ d (λ a h. reads_if _ _ (reads_lt 1 (level k a)) (reads_held_old rs (backward k a)))

  -- k is held if it is admissible
  abbrev HeldIf : List ℕ → Type 0
  HeldIf k = Index d k × OldBehind k → Held rs k

  reads_held_if : (k : List ℕ) → Exactly (held_if_admissible d rs k) (HeldIf k)
  unfolding held_if_admissible
  reads_held_if k = reads_if _ _ (reads_index d k and reads_old_behind k) (reads_held rs k)

  abbrev NextHeld : Type 0
  NextHeld = HeldIf root × ((p : ℕ) → p < length rs → state_at rs p ≡ 2 → (a : ℕ) → a < d → HeldIf (forward (levels_at rs p) a))

  -- the root and the forward neighbours of old indices are all that there is to look at
  all_held : NextHeld → (k : List ℕ) → Index d k → OldBehind k → Held rs k
  all_held x k i o = step (root_or d k i)
    where
      step : (k ≡ root) ⊎ ((a : ℕ) × (a < 8) × (1 < level k a)) → Held rs k
      step (inl e) = subst HeldIf (sym e) x.0 (i, o)
      step (inr s) =
          let ha : s.0 < d = axis_of d k i s.0 s.1 s.2 in
          let t : HeldOld rs (backward k s.0) = o s.0 ha s.2 in
          let up : forward (levels_at rs t.0) s.0 ≡ k =
          ap (λ l. forward l s.0) t.1.same ∙ forward_backward k s.0 (omega (arith, i.eight)) s.2 in
          subst HeldIf up (x.1 t.0 t.1.place t.2 s.0 ha) (i, o)

  reads_admissible : Exactly (admissible_clause d rs) ((k : List ℕ) → Index d k → OldBehind k → Held rs k)
  unfolding admissible_clause
  reads_admissible =
      reads_as all_held (λ f. (λ x. f root x.0 x.1, λ p h e a l x. f (forward (levels_at rs p) a) x.0 x.1))
      (reads_held_if root
      and reads_all _ _ (length rs) (λ p h.
      reads_if _ _ (reads_eq (state_at rs p) 2) (reads_all _ _ d (λ a l. reads_held_if (forward (levels_at rs p) a)))))

  reads_structure : Exactly (structure_clause d rs) (Structure d rs)
  unfolding structure_clause index_clause beyond_clause states_clause count_clause different_clause first_clause behind_clause forward_links_clause backward_links_clause no_backward_link_clause
  reads_structure =
      reads_as
      (λ ((((((((((index, beyond), states), count), different), first), behind), admissible), forward_links), backward_links), no_backward_link).
      record {
        index = index;
        beyond = λ p a h. beyond p h a;
        states = states;
        count = count;
        different = different;
        first = first;
        behind = λ p a h. behind p h a;
        admissible = admissible;
        forward_links = forward_links;
        backward_links = backward_links;
        no_backward_link = no_backward_link;
      })
      (λ s. ((((((((((s.index, λ p h a. s.beyond p a h), s.states), s.count), s.different), s.first), λ p h a. s.behind p a h), s.admissible), s.forward_links), s.backward_links), s.no_backward_link))
      (reads_all _ _ (length rs) (λ p h. reads_index d (levels_at rs p))
      and reads_all _ _ (length rs) (λ p h. reads_beyond d (λ a. reads_eq (forward_link rs p a) none and reads_eq (backward_link rs p a) none))
      and reads_all _ _ (length rs) (λ p h. reads_le (state_at rs p) 2)
      and (reads_le 1 (length rs) and reads_le (length rs) 512)
      and reads_pairs (length rs) (length rs) (λ p q. reads_if _ _ (reads_same (levels_at rs p) (levels_at rs q)) (reads_eq p q))
      and reads_same (levels_at rs 0) root
      and reads_all _ _ (length rs) (λ p h. reads_old_behind (levels_at rs p))
      and reads_admissible
      and reads_pairs (length rs) d (λ p a. reads_names rs (forward (levels_at rs p) a) (forward_link rs p a))
      and reads_pairs (length rs) d (λ p a. reads_if _ _ (reads_lt 1 (level (levels_at rs p) a)) (reads_names rs (backward (levels_at rs p) a) (backward_link rs p a)))
      and reads_pairs (length rs) d (λ p a. reads_if _ _ (reads_eq (level (levels_at rs p) a) 1) (reads_eq (backward_link rs p a) none)))

module _ (a : Area) where
  abbrev rs : List IndexRecord
  rs = held_of a

  reads_wanted_last : Exactly (wanted_last_clause a) ((p q : ℕ) → p ≤ q → q < length rs → state_at rs p ≡ 0 → state_at rs q ≡ 0)
  unfolding wanted_last_clause
  reads_wanted_last =
      reads_as (λ f p q l h e. f p q (omega arith) h (l, e)) (λ f p q g h x. f p q x.0 h x.1)
      (reads_pairs (length rs) (length rs) (λ p q. reads_if _ _ (reads_le p q and reads_eq (state_at rs p) 0) (reads_eq (state_at rs q) 0)))

  reads_readings : Exactly (readings_clause a)
      ((p n : ℕ) → p < length rs → 1 ≤ state_at rs p → n < reading_count a.job.settings (levels_at rs p)
      → ((record_at rs p).first + n < length a.store) × IsReading (get_or a.store ((record_at rs p).first + n) (pos 0)))
  unfolding readings_clause is_reading
  reads_readings =
      reads_as (λ f p n h l. f p h l n) (λ f p h l n. f p n h l)
      (reads_all _ _ (length rs) (λ p h.
      reads_if _ _ (reads_le 1 (state_at rs p))
      (reads_all _ _ (reading_count a.job.settings (levels_at rs p)) (λ n l.
      reads_lt ((record_at rs p).first + n) (length a.store) and reads_le (nat_abs (get_or a.store ((record_at rs p).first + n) (pos 0))) 1048576))))

  reads_numbers : Exactly (numbers_clause a) (NumbersSound a)
  unfolding numbers_clause
  reads_numbers =
      reads_as
      (λ ((((reserved, within_budget), pending), carried), mean).
      record { reserved = reserved; within_budget = within_budget; pending = pending; carried = carried; mean = mean })
      (λ n. ((((n.reserved, n.within_budget), n.pending), n.carried), n.mean))
      (reads_eq a.job.reserved (reserved_by (entries_of a))
      and reads_le a.job.reserved a.job.settings.budget
      and reads_eq a.job.pending (pending_of (entries_of a))
      and reads_eq a.job.carried (carried_of a.job.settings.axes (entries_of a))
      and reads_le (nat_abs a.job.mean) (length (delivered_of (entries_of a)) * 2 ^ 40))

  pub reads_sound : Exactly (is_sound a) (Sound a)
  unfolding is_sound held_lent_clause wanted_indicator_zero_clause first_readings_clause
  reads_sound =
      reads_as
      (λ (((((((lent, settings), structure), wanted_last), wanted_indicator_zero), first_readings), readings), numbers).
      record {
        held_lent = lent;
        settings = settings;
        structure = structure;
        wanted_last = wanted_last;
        wanted_indicator_zero = wanted_indicator_zero;
        first_readings = first_readings;
        readings = readings;
        numbers = numbers;
      })
      (λ s. (((((((s.held_lent, s.settings), s.structure), s.wanted_last), s.wanted_indicator_zero), s.first_readings), s.readings), s.numbers))
      (reads_le a.job.held (length a.run.records)
      and reads_settings a.job.settings
      and reads_structure a.job.settings.axes rs
      and reads_wanted_last
      and reads_all _ _ (length rs) (λ p h. reads_if _ _ (reads_eq (state_at rs p) 0) (reads_eq (record_at rs p).indicator 0))
      and reads_all _ _ (length rs) (λ p h. reads_eq (record_at rs p).first (nat_sum_to p (λ q. reading_count a.job.settings (levels_at rs q))))
      and reads_readings
      and reads_numbers)

pub reads_checked : (a : Area) → Exactly (checked a) (LongEnough a × Sound a)
unfolding checked
reads_checked a =
    reads_as (λ ((records, store), sound). (record { records = records; store = store }, sound)) (λ x. ((x.0.records, x.0.store), x.1))
    (reads_le 512 (length a.run.records) and reads_le (least_store a.job.settings) (length a.store) and reads_sound a)

pub clause_facts : ClauseFacts
clause_facts = record { agree = reads_sound; answer = reads_checked; settings = reads_settings }
