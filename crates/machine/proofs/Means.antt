-- The mean of a list of entries: a delivery adds the delivered index's difference, a promotion adds none, and the cross total is the same.
-- The idea: an area that encodes the entries is sound, so the delivered indices are downward closed: whatever is nowhere higher than a
-- delivered index is delivered. The first wanted index is not, so no difference of an index delivered before takes its readings. Refining
-- changes no readings and nothing delivered. The combination identity over the delivered gives the cross total.
-- Assumes nothing.
use mathlib.Core.Path.{◌≡◌, refl, sym, ap, ap₂, ◌∙◌, subst, fun_ext}
use mathlib.Core.Logic.{◌≢◌, ⊎_elim}
use mathlib.Core.List.{List, [], Memᴰ}
use Prim.Native.Nat.{ℕ, ◌<◌, ◌≤◌}
use native.Mathlib.Omega.{arith}
use lib.IntN.{ℤ, pos, ◌+ℤ◌}
use lib.ListN.{length, get_or, length-map}
use Rattle.sums.specs.Sums.{sum_of}
use Rattle.sums.proofs.Sums.{sum_of_cong_in}
use Rattle.grid.specs.Index.{NowhereHigher, forward}
use Rattle.grid.specs.Difference.{scaled_difference, scaled_mean}
use Rattle.grid.specs.Terms.{DownSet}
use Rattle.grid.proofs.Facts.{difference_facts, combination}
use Rattle.area.specs.Records.{Run}
use Rattle.area.specs.Entry.{Entry, delivered_of, readings_of, reading_in}
use Rattle.area.specs.Log.{Log, Machine}
use Rattle.area.specs.Encoding.{Area, held_of, entries_of, machine_of}
use Rattle.quadrature.specs.Linked.{delivered_in}
use Rattle.quadrature.proofs.Delivered.{delivered_sure}
use Rattle.quadrature.proofs.Encoded.{delivered_same}
use Rattle.soundness.specs.Held.{state_at, Holds}
use Rattle.soundness.specs.Sound.{Sound}
use Rattle.soundness.proofs.Lower.{lower_old}
use Rattle.soundness.proofs.Facts.{sound_facts}
use Rattle.encoding.specs.Entries.{entry_at, Has, SoundMachine}
use Rattle.encoding.specs.Encodes.{encoded_area}
use Rattle.encoding.proofs.Places.{state_at_lem, has}
use Rattle.encoding.proofs.Facts.{encoding_facts}
use Rattle.machine.specs.Log.{wanted, first_wanted, wanted_index, Active}
use Rattle.machine.specs.Promote.{made_old, make_old, admitted_axes, refine}
use Rattle.machine.specs.Steps.{started, delivered, deliver_at, deliver, promote_step}
use Rattle.machine.specs.Means.{mean_of, cross_of, MeanFacts}
use Rattle.machine.proofs.Wanted.{first_is}
use Rattle.machine.proofs.Readings.{Empty, readings_other, readings-set, readings-append, sum_more}
use Rattle.machine.proofs.Refined.{ahead, ahead_at, refine-delivered}
use Rattle.machine.proofs.Answers.{either_log}

-- ---- the delivered of sound entries

-- a place that has the index, delivered
abbrev EnteredDelivered : List Entry → List ℕ → Type 0
EnteredDelivered es k = (p : ℕ) × Has es k p × (1 ≤ (entry_at es p).state)

-- a set as the combination identity asks, and whatever is nowhere higher than a member is delivered
record Down (es : List Entry) : Type 0 where
  set : DownSet (delivered_of es)
  lower : (k l : List ℕ) → Memᴰ k (delivered_of es) → NowhereHigher l k → EnteredDelivered es l

module _ (a : Area) (sound : Sound a) where
  -- the records' and the entries' delivered are the same
  same : delivered_in (held_of a) ≡ delivered_of (entries_of a)
  unfolding entries_of
  same = delivered_same a.job.settings a.store (held_of a)

  entered : (k : List ℕ) (p : ℕ) → Holds (held_of a) k p → 1 ≤ state_at (held_of a) p → EnteredDelivered (entries_of a) k
  unfolding entries_of
  entered k p h s = (p, has a.job.settings a.store (held_of a) k p h, omega (arith, state_at_lem a.job.settings a.store (held_of a) p))

  area_lower : (k l : List ℕ) → Memᴰ k (delivered_of (entries_of a)) → NowhereHigher l k → EnteredDelivered (entries_of a) l
  area_lower k l m w =
      let x = delivered_sure (held_of a) k (subst (Memᴰ k) (sym same) m) in
      let h : Holds (held_of a) k x.place = record { place = x.inside; same = x.levels } in
      ⊎_elim (λ e. subst (EnteredDelivered (entries_of a)) (sym e) (entered k x.place h x.delivered))
      (λ old. entered l old.0 old.1 (omega (arith, old.2)))
      (lower_old a.job.settings.axes (held_of a) sound.structure k l (x.place, h) w)

  area_down : Down (entries_of a)
  area_down = record { set = subst DownSet same (sound_facts.down a sound); lower = area_lower }

ahead_empty : (k axes : List ℕ) → Empty (ahead k axes)
unfolding wanted
ahead_empty k axes i h = ap (λ (e : Entry). e.readings) (ahead_at k axes i (omega (arith, length-map axes (λ a. wanted (forward k a)))))

module _ {m : Machine} (v : SoundMachine m) where
  abbrev es : List Entry
  es = m.log.entries

  -- an area that encodes the entries, with nothing past them
  nothing : Run
  nothing = record { records = []; rest = [] }

  down : Down es
  unfolding machine_of
  down =
      subst (λ (x : Machine). Down x.log.entries) (encoding_facts.read_back m v nothing []) (area_down (encoded_area m nothing []) (encoding_facts.sound m v nothing []))

  cross_is : mean_of es ≡ cross_of es
  unfolding mean_of cross_of
  cross_is = combination.identity (delivered_of es) (reading_in es) down.set

  -- ---- deliver

  module _ (some : first_wanted es < length es) (rs : List ℤ) (i : ℕ) where
    abbrev place : ℕ
    place = first_wanted es

    abbrev after : List Entry
    after = deliver_at es place rs i

    -- what is nowhere higher than a delivered index is not the wanted one
    apart : (k l : List ℕ) → Memᴰ k (delivered_of es) → NowhereHigher l k → l ≢ wanted_index es
    apart k l n w e =
        let s = down.lower k l n w in
        let q : s.0 ≡ place = v.different s.0 place s.1.place some (s.1.same ∙ e) in
        omega (arith, s.2, first_is es some, ap (λ p. (entry_at es p).state) q)

    readings_kept : (l : List ℕ) → l ≢ wanted_index es → reading_in after l ≡ reading_in es l
    unfolding deliver_at delivered reading_in
    readings_kept l n = ap (λ x j. get_or x j (pos 0)) (readings_other es place (delivered (entry_at es place) rs i) l refl n)

    -- so the differences of the delivered stay
    difference_kept : (k : List ℕ) → Memᴰ k (delivered_of es) → scaled_difference k (reading_in after) ≡ scaled_difference k (reading_in es)
    difference_kept k n =
        difference_facts.difference_only k (reading_in after) (reading_in es) (λ l j w h. ap (λ f. f j) (readings_kept l (apart k l n w)))

    sum_after : (f : List ℕ → ℤ) → sum_of (delivered_of after) f ≡ sum_of (delivered_of es) f +ℤ f (wanted_index es)
    unfolding deliver_at delivered
    sum_after f = sum_more es place (delivered (entry_at es place) rs i) f some (first_is es some) (omega arith)

    deliver_adds : mean_of after ≡ mean_of es +ℤ scaled_difference (wanted_index es) (reading_in after)
    unfolding mean_of scaled_mean
    deliver_adds =
        sum_after (λ k. scaled_difference k (reading_in after))
        ∙ ap (λ x. x +ℤ scaled_difference (wanted_index es) (reading_in after))
        (sum_of_cong_in (delivered_of es) (λ k. scaled_difference k (reading_in after)) (λ k. scaled_difference k (reading_in es)) difference_kept)

  -- ---- promote

  module _ (p : ℕ) (inside : p < length es) (active : (entry_at es p).state ≡ 1) where
    abbrev d : ℕ
    d = m.log.settings.axes

    abbrev k : List ℕ
    k = (entry_at es p).levels

    abbrev axes : List ℕ
    axes = admitted_axes d (make_old es p) k

    refine-readings : (l : List ℕ) → readings_of (refine d es p) l ≡ readings_of es l
    unfolding refine make_old made_old
    refine-readings l =
        readings-append (make_old es p) (ahead k axes) l (ahead_empty k axes)
        ∙ readings-set es p (made_old (entry_at es p)) l refl refl

    refine_mean : mean_of (refine d es p) ≡ mean_of es
    unfolding mean_of reading_in
    refine_mean = ap₂ scaled_mean (refine-delivered v p inside active) (fun_ext (λ l. ap (λ x j. get_or x j (pos 0)) (refine-readings l)))

-- whatever the answer
promote_mean : (m : Machine) (p : ℕ) → SoundMachine m → Active m.log.entries p → mean_of (promote_step m p).log.entries ≡ mean_of m.log.entries
unfolding promote_step
promote_mean m p v a =
    either_log m.log.settings.budget m.log p (λ (l : Log). mean_of l.entries ≡ mean_of m.log.entries) (λ e. refine_mean v p a.place a.active) refl

pub mean_facts : MeanFacts
mean_facts =
    record {
      start = λ g. unfold mean_of started delivered_of wanted scaled_mean sum_of in refl;
      deliver = λ m rs i v some. unfold deliver in deliver_adds v some rs i;
      promote = promote_mean;
      cross = λ m v. cross_is v;
    }
