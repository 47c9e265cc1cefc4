-- An index nowhere higher than an entered one is that one, or entered and old.
-- The idea: an area that encodes the entries is sound, and in a sound area this is so of the held indices.
-- Assumes nothing.
use mathlib.Core.Path.{◌≡◌, subst}
use mathlib.Core.Logic.{◌⊎◌, inl, inr, ⊎_elim}
use mathlib.Core.List.{List, []}
use Prim.Native.Nat.{ℕ}
use Rattle.grid.specs.Index.{NowhereHigher}
use Rattle.area.specs.Records.{Run}
use Rattle.area.specs.Entry.{Entry}
use Rattle.area.specs.Log.{Machine}
use Rattle.area.specs.Encoding.{Area, held_of, entries_of, machine_of}
use Rattle.soundness.specs.Sound.{Sound}
use Rattle.soundness.proofs.Lower.{lower_old}
use Rattle.encoding.specs.Entries.{Entered, EnteredOld, SoundMachine}
use Rattle.encoding.specs.Encodes.{encoded_area}
use Rattle.encoding.proofs.Places.{holds, entered_old}
use Rattle.encoding.proofs.Facts.{encoding_facts}

abbrev Below : List Entry → Type 0
Below es = (k l : List ℕ) → Entered es k → NowhereHigher l k → (l ≡ k) ⊎ EnteredOld es l

area_below : (a : Area) → Sound a → Below (entries_of a)
unfolding entries_of
area_below a sound k l h w =
    ⊎_elim (λ e. inl e) (λ o. inr (entered_old a.job.settings a.store (held_of a) l o))
    (lower_old a.job.settings.axes (held_of a) sound.structure k l (h.0, holds a.job.settings a.store (held_of a) k h.0 h.1) w)

module _ {m : Machine} (v : SoundMachine m) where
  abbrev es : List Entry
  es = m.log.entries

  nothing : Run
  nothing = record { records = []; rest = [] }

  pub entered_below : (k l : List ℕ) → Entered es k → NowhereHigher l k → (l ≡ k) ⊎ EnteredOld es l
  unfolding machine_of
  entered_below =
      subst (λ (x : Machine). Below x.log.entries) (encoding_facts.read_back m v nothing []) (area_below (encoded_area m nothing []) (encoding_facts.sound m v nothing []))
