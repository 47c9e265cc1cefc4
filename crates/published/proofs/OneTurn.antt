-- Refining an active place is the move of its index and the scan, and with the deliveries of all that it admitted it is the loop's body with
-- that index.
-- The idea: the promotion makes old what Fig. 1 moves, and appends as wanted what the scan joins; the deliveries join these in order.
-- Assumes nothing.
use mathlib.Core.Path.{◌≡◌, refl, sym, ap, ◌∙◌, subst}
use mathlib.Core.Bool.{cond}
use mathlib.Core.Logic.{◌≢◌}
use mathlib.Core.List.Memᴰ
use mathlib.Core.List.{List, [], ◌∷◌, ◌++◌, map, Memᴰ}
use Prim.Native.Nat.{ℕ, suc, ◌+◌, ◌<◌, ◌≤◌}
use native.Mathlib.Omega.{arith}
use borrow.Author.Tests.{ne_eqb}
use lib.ListN.{length, length-append, length-map}
use Rattle.grid.specs.Index.{forward, at_ceiling}
use Rattle.grid.specs.Block.{block_size}
use Rattle.grid.specs.Terms.{NoDup}
use Rattle.grid.proofs.Lower.{nodup_append}
use Rattle.area.specs.Entry.{Entry, reserved_by, pending_of, carried_of}
use Rattle.area.specs.Log.{Log, Machine}
use Rattle.encoding.specs.Entries.{entry_at, Has, EnteredOld, SoundMachine}
use Rattle.machine.specs.Log.{wanted}
use Rattle.machine.specs.Counts.{count_of}
use Rattle.machine.specs.Promote.{spent, promoted, made_old, make_old, admitted_axes, refine, promote_at}
use Rattle.machine.specs.Admitted.{total_of}
use Rattle.machine.specs.Steps.{promote_step}
use Rattle.machine.proofs.Sets.{set-each, reserved_set}
use Rattle.machine.proofs.Appends.{old_left, old_before}
use Rattle.machine.proofs.Admitted.{make_old-length, not_old}
use Rattle.machine.proofs.Refined.{refine_different}
use Rattle.machine.proofs.Totals.{total-append, total-length}
use Rattle.machine.proofs.Limits.{limits_spent, limits_only, limits_promoted}
use Rattle.machine.proofs.Answers.{refined_log, promoted_log}
use Rattle.machine.proofs.CarriedError.{carried_before, carried_make_old}
use Rattle.machine.proofs.Facts.{step_facts}
use Rattle.published.specs.Figure.{Problem, Figure, without, moved, turn_at}
use Rattle.published.specs.Turns.{supplies, turn_on, active_of, not_old_of, SettingsMatch, ReadingValued, Simulates, ExceedsLimits, PromotionFollows}
use Rattle.published.proofs.MakesOld.{active-make_old, total-make_old, pending_make_old, make_old_there, make_old_here, make_old_supplied}
use Rattle.published.proofs.Scans.{joined_all, scan_admits}
use Rattle.published.proofs.Joins.{Agrees, Waiting}
use Rattle.published.proofs.Awaited.{joins_old, joins_active, joins_carried, EachDelivered, active_before, pending_before, reserved_both, not_old_both, not_old_sure, not_old_once}
use Rattle.published.proofs.Supplies.{all_wanted, supplies-join}

-- ---- how many are wanted

count_wanted : (ks : List (List ℕ)) → count_of 0 (map wanted ks) ≡ length ks
unfolding count_of wanted
count_wanted [] = refl
count_wanted (k ∷ ks) = omega (arith, count_wanted ks)

-- after entries that are delivered
count_after : (es : List Entry) (ks : List (List ℕ)) → ((p : ℕ) → p < length es → 1 ≤ (entry_at es p).state) → count_of 0 (es ++ map wanted ks) ≡ length ks
unfolding count_of
count_after [] ks f = count_wanted ks
count_after (e ∷ es) ks f =
    rw (ne_eqb e.state 0 (λ z. omega (arith, f 0 (omega arith)))) (omega (arith, count_after es ks (λ p h. f (suc p) (omega arith))))

wanted-map : (k axes : List ℕ) → map (λ a. wanted (forward k a)) axes ≡ map wanted (map (forward k) axes)
wanted-map k [] = refl
wanted-map k (a ∷ axes) = ap (λ es. wanted (forward k a) ∷ es) (wanted-map k axes)

module _ (P : Problem) (m : Machine) (s : Figure) (v : SoundMachine m) (at : Simulates P m s) where
  abbrev es : List Entry
  es = m.log.entries

  -- ---- any active place refined

  module _ (p : ℕ) (inside : p < length m.log.entries) (is_active : (entry_at m.log.entries p).state ≡ 1) where
    abbrev k : List ℕ
    k = (entry_at es p).levels

    active_same : active_of (make_old es p) ≡ without s.active k
    active_same = active-make_old es p v.different inside is_active ∙ ap (λ ks. without ks k) at.active

    -- the totals over the active, before and after
    total-active : (f : List ℕ → ℕ) → total_of f s.active ≡ f k + total_of f (without s.active k)
    total-active f =
        ap (total_of f) (sym at.active) ∙ total-make_old f es p inside is_active ∙ ap (λ ks. f k + total_of f ks) active_same

    -- the place's index was not old before
    old_once : NoDup (s.old ++ k ∷ [])
    old_once =
        nodup_append s.old (k ∷ []) at.once (Memᴰ.not-nil, tt) (λ j h q.
        not_old v p inside is_active (at.old_here k (Memᴰ.cast (sym (Memᴰ.eq_of_singleton q)) h)))

    -- the carried error before, and as the move raises it
    carried_here : carried_of P.axes es ≡ s.carried
    carried_here = ap (λ d. carried_of d es) at.posed.axes ∙ at.carried

    carried_moved : carried_of P.axes (make_old es p) ≡ carried_of P.axes es + cond (at_ceiling P.axes k) (P.indicator k) 0
    carried_moved =
        carried_make_old P.axes es p inside is_active
        ∙ ap (λ i. carried_of P.axes es + cond (at_ceiling P.axes k) i 0) (at.supplied.indicators p inside)

    agrees : Agrees P (make_old es p) (moved P k s)
    unfolding moved total_of
    agrees =
        record {
          supplied = make_old_supplied es p inside P at.supplied;
          old_there = make_old_there es p inside s.old at.old_there;
          old_here = make_old_here es p inside s.old at.old_here;
          active = active_same;
          pending = omega (arith, pending_make_old es p inside is_active, at.pending, at.supplied.indicators p inside);
          carried = carried_moved ∙ ap (λ c. c + cond (at_ceiling P.axes k) (P.indicator k) 0) carried_here;
          held =
              omega
              (arith, make_old-length es p inside, at.held, length-append s.old (k ∷ []), total-active (λ j. 1), total-length s.active, total-length (without s.active k));
          reserved =
              omega (arith, reserved_make_old, at.reserved, total-append block_size s.old (k ∷ []), total-active block_size);
          once = old_once;
        }
      where
        reserved_make_old : reserved_by (make_old es p) ≡ reserved_by es
        reserved_make_old = unfold make_old made_old in reserved_set es p (made_old (entry_at es p)) inside refl

    -- the admitted indices
    abbrev ks : List (List ℕ)
    ks = map (forward k) (admitted_axes P.axes (make_old es p) k)

    abbrev after : List Entry
    after = refine m.log.settings.axes es p

    after_is : refine m.log.settings.axes m.log.entries p ≡ make_old es p ++ map wanted ks
    unfolding refine
    after_is =
        ap (λ d. refine d es p) (sym at.posed.axes)
        ∙ ap (λ ws. make_old es p ++ ws) (wanted-map k (admitted_axes P.axes (make_old es p) k))

    -- ---- the turn of Fig. 1 with its index

    turn_joins : turn_at P k s ≡ joined_all P ks (moved P k s)
    unfolding turn_at
    turn_joins = scan_admits P (moved P k s) (make_old es p) agrees.old_there agrees.old_here k

    each : EachDelivered (make_old es p)
    unfolding make_old
    each q h = (agrees.supplied.delivered q h, set-each es p (made_old (entry_at es p)) inside (λ e. e.state ≤ 2) (unfold made_old in omega arith) (λ r b n. v.states r b) q (omega (arith, make_old-length es p inside)))

    turn_old : (turn_at P k s).old ≡ (moved P k s).old
    turn_old = ap (λ (r : Figure). r.old) turn_joins ∙ joins_old P ks (moved P k s)

    turn-active : (turn_at P k s).active ≡ (moved P k s).active ++ ks
    turn-active = ap (λ (r : Figure). r.active) turn_joins ∙ joins_active P ks (moved P k s)

    pub refines : PromotionFollows P s (entry_at m.log.entries p).levels m.log.entries (refine m.log.settings.axes m.log.entries p)
    refines =
        record {
          old_there = λ j h. subst (Memᴰ j) (sym turn_old) (agrees.old_there j (old_before (make_old es p) (map wanted ks) (all_wanted ks) j (subst (λ xs. EnteredOld xs j) after_is h)));
          old_here = λ j h. subst (λ xs. EnteredOld xs j) (sym after_is) (old_left (make_old es p) (map wanted ks) j (agrees.old_here j (subst (Memᴰ j) turn_old h)));
          active = ap active_of after_is ∙ active_before (make_old es p) ks ∙ agrees.active;
          not_old = ap not_old_of after_is ∙ not_old_both (make_old es p) ks each ∙ ap (λ xs. xs ++ ks) agrees.active ∙ sym turn-active;
          pending_falls = omega (arith, pending_make_old es p inside is_active, at.supplied.indicators p inside, pending_after);
          pending = pending_after ∙ agrees.pending;
          carried_rises = carried_after ∙ carried_moved;
          carried = carried_after ∙ agrees.carried ∙ sym (ap (λ (r : Figure). r.carried) turn_joins ∙ joins_carried P ks (moved P k s));
        }
      where
        pending_after : pending_of after ≡ pending_of (make_old es p)
        pending_after = ap pending_of after_is ∙ pending_before (make_old es p) ks

        carried_after : carried_of P.axes after ≡ carried_of P.axes (make_old es p)
        carried_after = ap (carried_of P.axes) after_is ∙ carried_before P.axes (make_old es p) ks

    -- no index is there twice
    pub once_after : NoDup ((turn_at P (entry_at m.log.entries p).levels s).old ++ (turn_at P (entry_at m.log.entries p).levels s).active)
    once_after =
        nodup_append (turn_at P k s).old (turn_at P k s).active (subst NoDup (sym turn_old) (unfold moved in old_once)) (subst NoDup refines.not_old (not_old_once after (refine_different v p inside is_active))) (λ j h q.
        apart j (refines.old_here j h) (not_old_sure after j (subst (Memᴰ j) (sym refines.not_old) q)))
      where
        apart : (j : List ℕ) → EnteredOld after j → (q : ℕ) × Has after j q × ((entry_at after q).state ≢ 2) → ⊥
        apart j h x =
            x.2
            (ap (λ r. (entry_at after r).state) (refine_different v p inside is_active x.0 h.0 x.1.place h.1.place (x.1.same ∙ sym h.1.same))
            ∙ h.2)

    -- ---- how many would be held, and how much reserved

    held_next : length after ≡ length (turn_at P k s).old + length (turn_at P k s).active
    held_next =
        omega
        (arith, ap length after_is, length-append (make_old es p) (map wanted ks), length-map ks wanted, agrees.held, ap length turn_old, ap length turn-active, length-append (moved P k s).active ks)

    reserved_next : reserved_by after ≡ total_of block_size (turn_at P k s).old + total_of block_size (turn_at P k s).active
    reserved_next =
        omega
        (arith, ap reserved_by after_is, reserved_both (make_old es p) ks, agrees.reserved, ap (total_of block_size) turn_old, ap (total_of block_size) turn-active, total-append block_size (moved P k s).active ks)

    abbrev next : Figure
    next = turn_at P k s

    pub spent_at : ExceedsLimits m.log.settings.budget (turn_at P (entry_at m.log.entries p).levels s) → (promote_at m.log p).outcome ≡ spent
    spent_at =
        limits_spent m.log p (length next.old + length next.active) (total_of block_size next.old + total_of block_size next.active) held_next reserved_next

    pub spent_at_only : (promote_at m.log p).outcome ≡ spent → ExceedsLimits m.log.settings.budget (turn_at P (entry_at m.log.entries p).levels s)
    spent_at_only =
        limits_only m.log p (length next.old + length next.active) (total_of block_size next.old + total_of block_size next.active) held_next reserved_next

    pub promoted_at : (ExceedsLimits m.log.settings.budget (turn_at P (entry_at m.log.entries p).levels s) → ⊥) → (promote_at m.log p).outcome ≡ promoted
    promoted_at =
        limits_promoted m.log p (length next.old + length next.active) (total_of block_size next.old + total_of block_size next.active) held_next reserved_next

    -- ---- promoted, and the deliveries

    module _ (e : (promote_at m.log p).outcome ≡ promoted) where
      log_is : (promote_at m.log p).log ≡ refined_log m.log p
      log_is = promoted_log m.log.settings.budget m.log p e

      step_entries : (promote_step m p).log.entries ≡ make_old es p ++ map wanted ks
      unfolding promote_step
      step_entries = ap (λ (l : Log). l.entries) log_is ∙ after_is

      waits : Waiting P (promote_step m p) (make_old es p) ks (moved P k s)
      unfolding promote_step moved
      waits =
          record {
            posed = subst (λ (l : Log). SettingsMatch l.settings P) (sym log_is) at.posed;
            entries = step_entries;
            agrees = agrees;
            result = at.result;
          }

      sound : SoundMachine (promote_step m p)
      sound = step_facts.promote m p v (record { place = inside; active = is_active })

      pub one_turn : ReadingValued P → SoundMachine (turn_on P m p) × Simulates P (turn_on P m p) (turn_at P (entry_at m.log.entries p).levels s)
      unfolding turn_on
      one_turn measured =
          subst (λ n. SoundMachine (supplies P n (promote_step m p)) × Simulates P (supplies P n (promote_step m p)) (turn_at P k s))
          (sym (ap (count_of 0) step_entries ∙ count_after (make_old es p) ks agrees.supplied.delivered))
          (subst (λ r. SoundMachine (supplies P (length ks) (promote_step m p)) × Simulates P (supplies P (length ks) (promote_step m p)) r) (sym turn_joins)
          (supplies-join P measured ks (promote_step m p) (make_old es p) (moved P k s) sound waits))
