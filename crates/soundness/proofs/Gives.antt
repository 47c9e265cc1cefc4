-- What a sound area gives to the functions over storage: every delivered index is ready, and the held records are linked.
-- Assumes nothing.
use mathlib.Core.Path.{◌≡◌, refl, sym, ap, ◌∙◌, subst}
use mathlib.Core.Logic.{⊎_elim}
use mathlib.Core.List.{List}
use Prim.Native.Nat.{ℕ, ◌+◌, ◌<◌, ◌≤◌}
use native.Mathlib.Decide.{dec_lt}
use native.Mathlib.Omega.{arith}
use lib.ListN.{length}
use Rattle.sums.specs.Sums.{nat_sum_to}
use Rattle.grid.specs.Index.{level, Index, root, forward, NowhereHigher}
use Rattle.grid.specs.Block.{block_size}
use Rattle.grid.specs.Terms.{IsReading}
use Rattle.grid.proofs.Neighbours.{forward_level}
use Rattle.area.specs.declared.IndexRecord.{IndexRecord}
use Rattle.area.specs.declared.Settings.{Settings}
use Rattle.area.specs.Settings.{least_store}
use Rattle.area.specs.Encoding.{Area, held_of, entries_of}
use Rattle.area.proofs.Readings.{reading_facts}
use Rattle.quadrature.specs.Readings.{record_at, place_in, stored_reading}
use Rattle.quadrature.specs.Ready.{Ready}
use Rattle.quadrature.specs.Linked.{Linked}
use Rattle.quadrature.proofs.Raised.{not_held}
use Rattle.soundness.specs.Held.{levels_at, state_at, forward_link, size_at, Holds, Held}
use Rattle.soundness.specs.Sound.{Structure, Sound}
use Rattle.soundness.proofs.Levels.{at_least, at_most}
use Rattle.soundness.proofs.Lower.{held_place, place_is, place_holds, lower_old, lower_held}
use Rattle.soundness.proofs.Sizes.{reserved_sum, count_below}

module _ (d : ℕ) (most : d ≤ 8) (rs : List IndexRecord) (s : Structure d rs) where
  -- raised along an axis beyond d, no index is held
  none_beyond : (p a : ℕ) → p < length rs → d ≤ a → a < 8 → Held rs (forward (levels_at rs p) a) → ⊥
  none_beyond p a hp hd h x =
      let i = s.index p hp in
      let j = s.index x.0 x.1.place in
      let up = forward_level (levels_at rs p) a (omega (arith, i.eight)) in
      let e = ap (λ k. level k a) x.1.same in
      omega (arith, up, e, i.beyond a hd h, j.beyond a hd h)

  -- a forward link is the place of the neighbour, or none
  link_place : (p a : ℕ) → p < length rs → a < 8 → forward_link rs p a ≡ place_in rs (forward (levels_at rs p) a)
  link_place p a hp h = axis (dec_lt a d)
    where
      inside : a < d → Dec (place_in rs (forward (levels_at rs p) a) < length rs) → forward_link rs p a ≡ place_in rs (forward (levels_at rs p) a)
      inside ha (yes q) = (s.forward_links p a hp ha).place (place_in rs (forward (levels_at rs p) a)) (place_holds d rs s (forward (levels_at rs p) a) q)
      inside ha (no q) =
          (s.forward_links p a hp ha).otherwise (λ x. q (held_place rs (forward (levels_at rs p) a) x))
          ∙ sym (not_held rs (forward (levels_at rs p) a) s.count.1 q)

      axis : Dec (a < d) → forward_link rs p a ≡ place_in rs (forward (levels_at rs p) a)
      axis (yes ha) = inside ha (dec_lt (place_in rs (forward (levels_at rs p) a)) (length rs))
      axis (no ha) =
          (s.beyond p a hp (omega arith) h).0
          ∙ sym
          (not_held rs (forward (levels_at rs p) a) s.count.1 (λ q.
          none_beyond p a hp (omega arith) h (place_in rs (forward (levels_at rs p) a), place_holds d rs s (forward (levels_at rs p) a) q)))

  pub structure_linked : Linked d rs
  structure_linked =
      record {
        axes = most;
        few = s.count.1;
        eight = λ p h. (s.index p h).eight;
        low = λ p a h b. at_least d (levels_at rs p) (s.index p h) a b;
        high = λ p a h b. at_most d (levels_at rs p) (s.index p h) a b;
        beyond = λ p a h i b. (s.index p h).beyond a i b;
        own = λ p h. place_is d rs s (levels_at rs p) p (record { place = h; same = refl });
        lower = λ p k h w. held_place rs k (lower_held d rs s (levels_at rs p) k (p, record { place = h; same = refl }) w);
        ahead = link_place;
      }

-- room is a premise of its own: the store is long enough
module _ (a : Area) (sound : Sound a) (room : least_store a.job.settings ≤ length a.store) where
  abbrev rs : List IndexRecord
  rs = held_of a

  abbrev d : ℕ
  d = a.job.settings.axes

  abbrev s : Structure d rs
  s = sound.structure

  abbrev g : Settings
  g = a.job.settings

  -- each held block lies in the store
  all_within : nat_sum_to (length rs) (size_at rs) ≤ g.budget
  unfolding entries_of
  all_within = omega (arith, reserved_sum g a.store rs, sound.numbers.reserved, sound.numbers.within_budget)

  block_in : (p : ℕ) → p < length rs → (record_at rs p).first + block_size (levels_at rs p) ≤ length a.store
  block_in p h = omega (arith, sound.first_readings p h, count_below g rs p h all_within, reading_facts.single g (levels_at rs p), room)

  module _ (k : List ℕ) (p₀ : ℕ) (at : Holds rs k p₀) (delivered : 1 ≤ state_at rs p₀) where
    index_k : Index d k
    index_k = subst (Index d) at.same (s.index p₀ at.place)

    holds : (l : List ℕ) → NowhereHigher l k → Holds rs l (place_in rs l)
    holds l w = place_holds d rs s l (held_place rs l (lower_held d rs s k l (p₀, at) w))

    state_at_lem : (l : List ℕ) → NowhereHigher l k → 1 ≤ state_at rs (place_in rs l)
    state_at_lem l w =
        ⊎_elim
        (λ e. subst (λ p. 1 ≤ state_at rs p) (sym (ap (place_in rs) e ∙ place_is d rs s k p₀ at)) delivered)
        (λ x. subst (λ p. 1 ≤ state_at rs p) (sym (place_is d rs s l x.0 x.1)) (omega (arith, x.2)))
        (lower_old d rs s k l (p₀, at) w)

    reading : (l : List ℕ) (n : ℕ) → NowhereHigher l k → n < block_size l → IsReading (stored_reading rs a.store l n)
    unfolding stored_reading
    reading l n w q = (sound.readings (place_in rs l) n (holds l w).place (state_at_lem l w) (rw ((holds l w).same, reading_facts.single g l) q)).1

    pub sound_ready : Ready d rs a.store k
    sound_ready =
        record {
          axes = sound.settings.axes.1;
          eight = index_k.eight;
          ceilings = index_k.ceilings;
          beyond = index_k.beyond;
          root_place = place_is d rs s root 0 (record { place = s.count.0; same = s.first });
          found = λ l w. omega (arith, (holds l w).place, s.count.1);
          delivered = state_at_lem;
          room = λ l w. subst (λ m. (record_at rs (place_in rs l)).first + block_size m ≤ length a.store) (holds l w).same (block_in (place_in rs l) (holds l w).place);
          range = reading;
          ahead = λ l c b w f. subst (λ m. forward_link rs (place_in rs l) c ≡ place_in rs (forward m c)) (holds l w).same (link_place d sound.settings.axes.1 rs s (place_in rs l) c (holds l w).place b);
        }
