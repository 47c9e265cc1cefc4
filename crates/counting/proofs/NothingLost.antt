-- The report of doubles of a sound state loses nothing.
-- The idea: all three numbers are below 2^53 in size: at most 512 differences or indicators are summed, and a difference is at most 2^40.
-- Assumes nothing.
use mathlib.Core.Path.{◌≡◌, refl, ap, ◌∙◌}
use mathlib.Core.Bool.{Bool, true, false, cond}
use mathlib.Core.List.{List, [], ◌∷◌}
use Prim.Native.Nat.{ℕ, zero, suc, ◌+◌, ◌^◌, ◌<◌, ◌≤◌}
use native.Mathlib.Omega.{arith}
use borrow.Author.Tests.{eqb-true}
use lib.Dec.{lit≤, eqb}
use lib.IntN.{ℤ, pos, negsuc, nat_abs}
use lib.ListN.{length}
use Rattle.doubles.specs.Double.{double, report_of}
use Rattle.doubles.specs.Exact.{LosesNothing}
use Rattle.doubles.proofs.Facts.{double-facts}
use Rattle.area.specs.Entry.{Entry, pending_of}
use Rattle.area.specs.Log.{Machine}
use Rattle.area.proofs.Carried.{carried_facts}
use Rattle.encoding.specs.Entries.{no_entry, entry_at, SoundMachine}
use Rattle.encoding.proofs.Ranges.{delivered_few}
use Rattle.machine.specs.Largest.{largest_of, DeliveredAt}
use Rattle.machine.proofs.Largest.{largest-delivered, none-delivered}
use Rattle.counting.specs.Doubles.{doubles_of, plus_zero, ReportOfSound}

-- ---- the pending error

-- none is active
pending_none : (es : List Entry) → ((p : ℕ) → DeliveredAt es p → ⊥) → pending_of es ≡ 0
unfolding pending_of
pending_none [] f = refl
pending_none (e ∷ es) f = by (eqb e.state 1) refl (pending_none es (λ p x. f (suc p) (record { inside = omega (arith, x.inside); delivered = x.delivered })))
  where
    by : (t : Bool) → eqb e.state 1 ≡ t → pending_of es ≡ 0 → cond t e.indicator 0 + pending_of es ≡ 0
    by true i r = absurd (f 0 (record { inside = omega arith; delivered = omega (arith, eqb-true e.state 1 i) }))
    by false i r = omega (arith, r)

-- ---- the three

module _ (m : Machine) (sound : SoundMachine m) where
  abbrev es : List Entry
  es = m.log.entries

  mean_small : nat_abs m.mean < 2 ^ 53
  mean_small = omega (arith, sound.mean, delivered_few es, sound.count.1)

  mean : LosesNothing (doubles_of m).mean m.mean (2 ^ 20)
  unfolding doubles_of report_of
  mean = double-facts.exact m.mean 20 mean_small (lit≤ tt)

  pending : ((p : ℕ) → p < length es → (entry_at es p).indicator < 2 ^ 32) → LosesNothing (doubles_of m).pending (pos (pending_of es)) 1
  unfolding doubles_of report_of
  pending h = double-facts.exact (pos (pending_of es)) 0 (omega (arith, carried_facts.together m.log.settings.axes es no_entry sound.count.1 h)) (lit≤ tt)

  largest : LosesNothing (doubles_of m).largest (largest_of es) (2 ^ 20)
  unfolding doubles_of report_of
  largest = double-facts.exact (largest_of es) 20 (omega (arith, largest-delivered.small m sound)) (lit≤ tt)

  -- ---- with nothing delivered

  -- a number of size 0 is 0
  no_size : (z : ℤ) → nat_abs z ≤ 0 → z ≡ pos 0
  no_size (pos zero) h = refl
  no_size (pos (suc n)) h = absurd (omega arith)
  no_size (negsuc n) h = absurd (omega arith)

  nothing : ((p : ℕ) → DeliveredAt es p → ⊥) → doubles_of m ≡ record { mean = plus_zero; pending = plus_zero; largest = plus_zero }
  unfolding doubles_of report_of
  nothing f =
      λ i.
      record {
        mean = (ap (λ z. double z (2 ^ 20)) (no_size m.mean mean_none) ∙ double-facts.zero 20 (lit≤ tt)) i;
        pending = (ap (λ n. double (pos n) 1) (pending_none es f) ∙ double-facts.zero 0 (lit≤ tt)) i;
        largest = (ap (λ z. double z (2 ^ 20)) (largest-delivered.none es f) ∙ double-facts.zero 20 (lit≤ tt)) i;
      }
    where
      mean_none : nat_abs m.mean ≤ 0
      mean_none = omega (arith, sound.mean, none-delivered es f)

pub report_of_sound : ReportOfSound
report_of_sound = record { mean = mean; pending = pending; largest = largest; nothing = nothing }
