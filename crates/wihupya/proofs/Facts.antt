-- Words and job records determine each other: a number is its low word and its high word, and bits are read and written back.
-- Assumes nothing.
use mathlib.Core.Path.{◌≡◌, refl, sym, ap, ◌∙◌}
use mathlib.Core.List.{List, [], ◌∷◌}
use Prim.Native.Nat.{ℕ, ◌+◌, ◌*◌, ◌^◌, ◌<◌}
use native.Mathlib.Omega.{arith}
use lib.ListN.{length, get_or}
use mir.Syntax.{w64}
use mir.Val.{SFits, to_z, of_z}
use mir.ValLaws.{of_z-to_z}
use Rattle.sums.specs.Lists.{tabulate}
use Rattle.sums.proofs.Words.{back, mag_le}
use Rattle.area.specs.declared.JobRecord.{JobRecord}
use Rattle.area.specs.Encoding.{Area, held_of}
use Rattle.quadrature.specs.Readings.{record_at}
use Rattle.soundness.specs.Sound.{Sound}
use Rattle.encoding.proofs.Facts.{range_facts}
use Rattle.wihupya.specs.Words.{word, wide, job_of, low_word, high_word, words_of}
use Rattle.wihupya.specs.Facts.{WordFacts}

-- a number from its words
pub both : (x : ℕ) → low_word x + high_word x * 2 ^ 32 ≡ x
unfolding low_word high_word
both x = omega arith

low_of : (a b : ℕ) → a < 2 ^ 32 → low_word (a + b * 2 ^ 32) ≡ a
unfolding low_word
low_of a b h = omega arith

high_of : (a b : ℕ) → a < 2 ^ 32 → high_word (a + b * 2 ^ 32) ≡ b
unfolding high_word
high_of a b h = omega arith

job_round_trip : (j : JobRecord) → j.settings.threshold < 2 ^ 64 → j.pending < 2 ^ 64 → j.carried < 2 ^ 64 → SFits w64 j.mean → job_of (words_of j) ≡ j
unfolding job_of words_of
job_round_trip j h k l f =
    λ i.
    record {
      settings = record { axes = j.settings.axes; threshold = both j.settings.threshold i; budget = j.settings.budget };
      held = j.held;
      reserved = j.reserved;
      pending = both j.pending i;
      carried = both j.carried i;
      mean = (ap (to_z w64) (both (of_z w64 j.mean)) ∙ back j.mean f) i;
    }

-- in a sound area the two errors and the mean have room in 64 bits
sound_round_trip : (a : Area) → Sound a → a.job.settings.threshold < 2 ^ 64 → ((p : ℕ) → p < length (held_of a) → (record_at (held_of a) p).indicator < 2 ^ 32)
    → job_of (words_of a.job) ≡ a.job
sound_round_trip a s h k =
    job_round_trip a.job h (omega (arith, range_facts.errors a s k)) (omega (arith, range_facts.errors a s k)) (record { sfits = omega (arith, mag_le a.job.mean, range_facts.mean a s) })

-- a list is what is read from it
read_all : (w : List ℕ) → tabulate (length w) (λ i. get_or w i 0) ≡ w
unfolding tabulate
read_all [] = refl
read_all (x ∷ w) = ap (λ l. x ∷ l) (read_all w)

module _ (w : List ℕ) (twelve : length w ≡ 12) (small : (i : ℕ) → word w i < 2 ^ 32) where
  mean_bits : of_z w64 (to_z w64 (wide w 4)) ≡ wide w 4
  mean_bits = of_z-to_z w64 (wide w 4) (record { fits = omega (arith, small 4, small 5) })

  words_round_trip : words_of (job_of w) ≡ w
  unfolding job_of words_of tabulate
  words_round_trip =
      (λ i.
      low_of (word w 0) (word w 1) (small 0) i
      ∷ high_of (word w 0) (word w 1) (small 0) i
      ∷ low_of (word w 2) (word w 3) (small 2) i
      ∷ high_of (word w 2) (word w 3) (small 2) i
      ∷ (ap low_word mean_bits ∙ low_of (word w 4) (word w 5) (small 4)) i
      ∷ (ap high_word mean_bits ∙ high_of (word w 4) (word w 5) (small 4)) i
      ∷ word w 6
      ∷ word w 7
      ∷ word w 8
      ∷ word w 9
      ∷ low_of (word w 10) (word w 11) (small 10) i
      ∷ high_of (word w 10) (word w 11) (small 10) i
      ∷ [])
      ∙ (ap (λ n. tabulate n (λ i. get_or w i 0)) (sym twelve) ∙ read_all w)

pub word-facts : WordFacts
word-facts = record { places = unfold words_of low_word high_word in refl; words_round_trip = words_round_trip; job_round_trip = job_round_trip; sound_round_trip = sound_round_trip }
