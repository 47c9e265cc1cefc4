-- Words and job records determine each other, so the words of a refused call's job record are as they were.
use Rattle.std.specs.Prelude.{◌≡◌, List, [], ◌∷◌, ℕ, ◌^◌, ◌<◌, pos, length}
use Rattle.std.specs.Int.{w64}
use Rattle.std.proofs.Common.{SFits}
use Rattle.area.specs.declared.JobRecord.{JobRecord}
use Rattle.area.specs.Settings.{settings_of}
use Rattle.area.specs.Encoding.{Area, held_of}
use Rattle.quadrature.specs.Readings.{record_at}
use Rattle.soundness.specs.Sound.{Sound}
use Rattle.wihupya.specs.Words.{word, job_of, words_of}

-- A job record whose twelve words are 1 to 12.
abbrev one_to_twelve : JobRecord
one_to_twelve =
    record {
      settings = settings_of 7 8589934593 8;
      held = 9;
      reserved = 10;
      pending = 17179869187;
      carried = 51539607563;
      mean = pos 25769803781;
    }

pub record WordFacts : Type 0 where
  -- each word in its place: threshold 0 and 1, pending error 2 and 3, scaled mean 4 and 5, axes 6, budget 7, held 8, reserved 9, carried error 10 and 11
  pub places : words_of one_to_twelve ≡ 1 ∷ 2 ∷ 3 ∷ 4 ∷ 5 ∷ 6 ∷ 7 ∷ 8 ∷ 9 ∷ 10 ∷ 11 ∷ 12 ∷ []
  -- twelve 32-bit words, read as a job record and written again
  pub words_round_trip : (w : List ℕ) → length w ≡ 12 → ((i : ℕ) → word w i < 2 ^ 32) → words_of (job_of w) ≡ w
  -- a job record, written as words and read again
  pub job_round_trip : (j : JobRecord) → j.settings.threshold < 2 ^ 64 → j.pending < 2 ^ 64 → j.carried < 2 ^ 64 → SFits w64 j.mean → job_of (words_of j) ≡ j
  -- so the job record that one exported call leaves in a sound area is the one that the next finds: cells are 32-bit numbers, and the
  -- threshold comes as a 64-bit number (crate `history`, specs/OnExports.antt, says it of every list of exported calls)
  pub sound_round_trip : (a : Area) → Sound a → a.job.settings.threshold < 2 ^ 64 → ((p : ℕ) → p < length (held_of a) → (record_at (held_of a) p).indicator < 2 ^ 32)
      → job_of (words_of a.job) ≡ a.job
