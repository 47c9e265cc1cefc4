-- Whether a place is that of an active index, read as a statement.
-- Assumes nothing.
use mathlib.Core.Path.{◌≡◌}
use mathlib.Core.Bool.{false}
use mathlib.Core.List.{List}
use Prim.Native.Nat.{ℕ}
use native.Mathlib.Omega.{arith}
use lib.ListN.{length}
use Rattle.area.specs.Entry.{Entry}
use Rattle.soundness.specs.Sound.{Exactly}
use Rattle.soundness.proofs.Exactly.{refuted, reads_as, reads_lt, reads_eq, reads_and}
use Rattle.encoding.specs.Entries.{entry_at}
use Rattle.machine.specs.Log.{Active, active_at}
use Rattle.machine.specs.Facts.{PlaceFacts}

pub reads_active : (es : List Entry) (p : ℕ) → Exactly (active_at es p) (Active es p)
unfolding active_at
reads_active es p =
    reads_as (λ x. record { place = x.0; active = x.1 }) (λ a. (a.place, a.active))
    (reads_and _ _ (reads_lt p (length es)) (reads_eq (entry_at es p).state 1))

not_active : (es : List Entry) (p : ℕ) → (Active es p → ⊥) → active_at es p ≡ false
not_active es p n = refuted (active_at es p) (reads_active es p) n

pub place-facts : PlaceFacts
place-facts =
    record {
      sure = λ es p. (reads_active es p).sure;
      back = λ es p. (reads_active es p).back;
      past = λ es p h. not_active es p (λ a. omega (arith, h, a.place));
      other = λ es p n. not_active es p (λ a. n a.active);
    }
