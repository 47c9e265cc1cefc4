-- The first cells of an array are the first records and nothing else, before a call on them and after.
-- The idea: a multiple of 27 cells is cut off, so no cells are left past the last record.
-- Assumes nothing.
use mathlib.Core.Path.{◌≡◌, ap, sym, ◌∙◌}
use mathlib.Core.List.{List, [], ◌++◌}
use Prim.Native.Nat.{ℕ, ◌*◌, ◌/◌, ◌≤◌}
use native.Mathlib.Omega.{arith}
use lib.ListN.{length, take, drop, length-append, length-drop}
use lib.Seq.{length-take-le, take_at, drop-length}
use Rattle.area.specs.declared.IndexRecord.{IndexRecord}
use Rattle.area.specs.Records.{Run, records_of, run_of}
use Rattle.area.proofs.Records.{length-records_of, records-take}
use Rattle.records.specs.Lent.{front}

abbrev pub alone : List IndexRecord → Run
alone rs = record { records = rs; rest = [] }

module _ (n : ℕ) (ws : List ℕ) (small : n ≤ 512) (count : length ws ≡ 13824) where
  pub room_for : n * 27 ≤ length ws
  room_for = omega (arith, small, count)

  cut_length : length (take (n * 27) ws) ≡ n * 27
  cut_length = length-take-le (n * 27) ws room_for

  whole : (c : List ℕ) → length c ≡ n * 27 → drop (length c / 27 * 27) c ≡ []
  whole c e = let k : length c / 27 * 27 ≡ length c = omega (arith, e) in ap (λ m. drop m c) k ∙ drop-length c

  -- what the call is lent
  pub cut_run : run_of (take (n * 27) ws) ≡ alone (front n ws)
  unfolding front
  cut_run =
      ap (λ (r : List ℕ). record { records = records_of (take (n * 27) ws); rest = r }) (whole (take (n * 27) ws) cut_length)
      ∙ ap alone (records-take n ws room_for)

  -- what it leaves
  pub cut_after : (c : List ℕ) → length c ≡ length (take (n * 27) ws) → alone (front n (c ++ drop (n * 27) ws)) ≡ run_of c
  unfolding front
  cut_after c e =
      let l : length c ≡ n * 27 = e ∙ cut_length in
      let k : n * 27 ≤ length (c ++ drop (n * 27) ws) = omega (arith, l, length-append c (drop (n * 27) ws)) in
      ap alone (sym (records-take n (c ++ drop (n * 27) ws) k) ∙ ap records_of (take_at c (drop (n * 27) ws) (n * 27) l))
      ∙ ap (λ (r : List ℕ). record { records = records_of c; rest = r }) (sym (whole c l))

  -- as many as there were
  pub cut_whole : (c : List ℕ) → length c ≡ length (take (n * 27) ws) → length (c ++ drop (n * 27) ws) ≡ 13824
  cut_whole c e = omega (arith, e, cut_length, room_for, length-append c (drop (n * 27) ws), length-drop (n * 27) ws, count)

  pub front_length : length (front n ws) ≡ n
  unfolding front
  front_length = length-take-le n (records_of ws) (omega (arith, small, count, length-records_of ws))
