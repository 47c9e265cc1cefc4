-- What the contracts say is said of the entries that are read from an area: readings that agree give the same figures.
-- Assumes nothing.
use mathlib.Core.Path.{◌≡◌, ap, ◌∙◌}
use mathlib.Core.List.{List, Memᴰ}
use Prim.Native.Nat.{ℕ}
use lib.IntN.{ℤ, ◌*ℤ◌}
use lib.ListN.{take}
use Rattle.sums.proofs.Sums.{sum_of_cong_in}
use Rattle.grid.specs.Difference.{scaled_difference, scaled_mean}
use Rattle.grid.specs.Tensor.{tensor_rule}
use Rattle.grid.specs.Coefficient.{coefficient}
use Rattle.grid.specs.Cross.{cross_total}
use Rattle.grid.specs.Largest.{largest_difference}
use Rattle.grid.specs.Terms.{Agree}
use Rattle.grid.proofs.Facts.{difference_facts}
use Rattle.grid.proofs.Largest.{largest-facts}
use Rattle.area.specs.declared.JobRecord.{JobRecord}
use Rattle.area.specs.Records.{records_of, held_in}
use Rattle.area.specs.Entry.{delivered_of, reading_in}
use Rattle.area.specs.Encoding.{area_of, entries_of}
use Rattle.quadrature.specs.Readings.{stored_reading}
use Rattle.quadrature.specs.Ready.{Ready}
use Rattle.quadrature.specs.Linked.{delivered_in}
use Rattle.quadrature.specs.Facts.{EntryFacts}
use Rattle.quadrature.proofs.Encoded.{held_ready, held_agree, entries_agree, delivered_same}

module _ (j : JobRecord) (c : List ℕ) (s : List ℤ) where
  ready_all : (d : ℕ) (k : List ℕ) → Ready d (held_in c j.held) s k → Ready d (records_of c) s k
  unfolding held_in
  ready_all d k w = held_ready j.held (records_of c) w

  -- readings that are found in the cells are those of the entries
  agree : (d : ℕ) (k : List ℕ) → Ready d (held_in c j.held) s k → Agree k (stored_reading (records_of c) s) (reading_in (entries_of (area_of j c s)))
  unfolding held_in entries_of
  agree d k w l n h q = held_agree j.held (records_of c) w l n h q ∙ entries_agree j.settings w l n h q

  delivered_entries : delivered_in (held_in c j.held) ≡ delivered_of (entries_of (area_of j c s))
  unfolding held_in entries_of
  delivered_entries = delivered_same j.settings s (take j.held (records_of c))

  difference_same : (d : ℕ) (k : List ℕ) → Ready d (held_in c j.held) s k
      → scaled_difference k (stored_reading (records_of c) s) ≡ scaled_difference k (reading_in (entries_of (area_of j c s)))
  difference_same d k w = difference_facts.difference_only k (stored_reading (records_of c) s) (reading_in (entries_of (area_of j c s))) (agree d k w)

  mean_same : (d : ℕ) → ((k : List ℕ) → Memᴰ k (delivered_in (held_in c j.held)) → Ready d (held_in c j.held) s k)
      → scaled_mean (delivered_in (held_in c j.held)) (stored_reading (records_of c) s)
      ≡ scaled_mean (delivered_of (entries_of (area_of j c s))) (reading_in (entries_of (area_of j c s)))
  unfolding scaled_mean
  mean_same d w =
      sum_of_cong_in (delivered_in (held_in c j.held)) (λ k. scaled_difference k (stored_reading (records_of c) s)) (λ k. scaled_difference k (reading_in (entries_of (area_of j c s)))) (λ k m. difference_same d k (w k m))
      ∙ ap (λ J. scaled_mean J (reading_in (entries_of (area_of j c s)))) delivered_entries

  tensor_same : (d : ℕ) (k : List ℕ) → Ready d (held_in c j.held) s k
      → tensor_rule k (stored_reading (records_of c) s) ≡ tensor_rule k (reading_in (entries_of (area_of j c s)))
  tensor_same d k w = difference_facts.tensor_only k (stored_reading (records_of c) s) (reading_in (entries_of (area_of j c s))) (agree d k w)

  cross_same : (d : ℕ) → ((k : List ℕ) → Memᴰ k (delivered_in (held_in c j.held)) → Ready d (held_in c j.held) s k)
      → cross_total (delivered_in (held_in c j.held)) (stored_reading (records_of c) s)
      ≡ cross_total (delivered_of (entries_of (area_of j c s))) (reading_in (entries_of (area_of j c s)))
  unfolding cross_total
  cross_same d w =
      let J = delivered_in (held_in c j.held) in
      sum_of_cong_in J (λ k. coefficient J k *ℤ tensor_rule k (stored_reading (records_of c) s)) (λ k. coefficient J k *ℤ tensor_rule k (reading_in (entries_of (area_of j c s)))) (λ k m. ap (λ x. coefficient J k *ℤ x) (tensor_same d k (w k m)))
      ∙ ap (λ K. cross_total K (reading_in (entries_of (area_of j c s)))) delivered_entries

  largest_same : (d : ℕ) → ((k : List ℕ) → Memᴰ k (delivered_in (held_in c j.held)) → Ready d (held_in c j.held) s k)
      → largest_difference (delivered_in (held_in c j.held)) (stored_reading (records_of c) s)
      ≡ largest_difference (delivered_of (entries_of (area_of j c s))) (reading_in (entries_of (area_of j c s)))
  largest_same d w =
      largest-facts.only (delivered_in (held_in c j.held)) (stored_reading (records_of c) s) (reading_in (entries_of (area_of j c s))) (λ k m. agree d k (w k m))
      ∙ ap (λ J. largest_difference J (reading_in (entries_of (area_of j c s)))) delivered_entries

  pub entry-facts : EntryFacts j c s
  entry-facts =
      record {
        ready = ready_all;
        delivered = delivered_entries;
        readings = agree;
        difference = difference_same;
        tensor = tensor_same;
        mean = mean_same;
        cross = cross_same;
        largest = largest_same;
      }
