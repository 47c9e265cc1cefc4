-- The differences of a sound machine's delivered indices and the mean over the trapezoidal rule, on the job's axes.
-- The idea: the readings that they take are the integrand's, so each term is the trapezoidal rule's, and a sum goes by its summands.
-- Assumes nothing.
use mathlib.Core.Path.{◌≡◌, sym, ap, ◌∙◌}
use mathlib.Core.List.{List, Memᴰ}
use Prim.Native.Nat.{ℕ, ◌-◌, ◌^◌}
use lib.IntN.{ℤ, pos, ◌*ℤ◌}
use lib.ListN.{take}
use Rattle.sums.specs.Sums.{sum_of}
use Rattle.sums.proofs.Ring.{*ℤ-left}
use Rattle.sums.proofs.Sums.{sum_of_cong_in, sum_of_mul}
use Rattle.grid.specs.Difference.{scaled_difference, scaled_mean}
use Rattle.grid.specs.Coefficient.{coefficient}
use Rattle.grid.specs.Tensor.{tensor_rule}
use Rattle.grid.specs.Cross.{cross_total}
use Rattle.grid.specs.Terms.{tensor_product, centred}
use Rattle.grid.specs.Trapezoidal.{trapezoidal_rule, trapezoidal_difference}
use Rattle.grid.proofs.Facts.{trapezoidal-facts}
use Rattle.area.specs.Entry.{Entry, delivered_of, reading_in}
use Rattle.area.specs.Log.{Machine}
use Rattle.encoding.specs.Entries.{SoundMachine}
use Rattle.machine.specs.Means.{mean_of, cross_of}
use Rattle.machine.proofs.Means.{mean_facts}
use Rattle.published.specs.Figure.{Problem}
use Rattle.published.specs.Sums.{SampledFrom}
use Rattle.published.proofs.Sums.{sum_facts}

-- what holds of each summand, holds of the sum
sum_tied : (J : List (List ℕ)) (a b : ℤ) (F G : List ℕ → ℤ) → ((k : List ℕ) → Memᴰ k J → a *ℤ F k ≡ b *ℤ G k) → a *ℤ sum_of J F ≡ b *ℤ sum_of J G
sum_tied J a b F G h =
    sym (sum_of_mul J a F) ∙ sum_of_cong_in J (λ k. a *ℤ F k) (λ k. b *ℤ G k) h ∙ sum_of_mul J b G

-- a factor of both sides
factor_tied : (a b c x y : ℤ) → a *ℤ x ≡ b *ℤ y → a *ℤ (c *ℤ x) ≡ b *ℤ (c *ℤ y)
factor_tied a b c x y e = *ℤ-left a c x ∙ ap (λ z. c *ℤ z) e ∙ *ℤ-left c b y

module _ (m : Machine) (v : SoundMachine m) (P : Problem) (read : SampledFrom P m.log.entries) where
  abbrev es : List Entry
  es = m.log.entries

  abbrev d : ℕ
  d = m.log.settings.axes

  -- the integrand on the job's axes
  abbrev f : List ℕ → ℤ
  f = centred (8 - d) P.integrand

  pub trapezoidal_difference_lem : (k : List ℕ) → Memᴰ k (delivered_of es)
      → pos (256 ^ d) *ℤ scaled_difference k (reading_in es) ≡ pos (2 ^ 20) *ℤ tensor_product trapezoidal_difference (take d k) f
  trapezoidal_difference_lem k n =
      trapezoidal-facts.job_axes d k (reading_in es) P.integrand v.settings.axes.1 (sum_facts.index m v k n) (sum_facts.agree m P v read k n)

  pub trapezoidal_mean : pos (256 ^ d) *ℤ cross_of es ≡ pos (2 ^ 20) *ℤ sum_of (delivered_of es) (λ k. tensor_product trapezoidal_difference (take d k) f)
  trapezoidal_mean = ap (λ x. pos (256 ^ d) *ℤ x) (sym (mean_facts.cross m v)) ∙ differences
    where
      differences : pos (256 ^ d) *ℤ mean_of es ≡ pos (2 ^ 20) *ℤ sum_of (delivered_of es) (λ k. tensor_product trapezoidal_difference (take d k) f)
      differences =
          unfold mean_of scaled_mean in
          sum_tied (delivered_of es) (pos (256 ^ d)) (pos (2 ^ 20)) (λ k. scaled_difference k (reading_in es))
          (λ k. tensor_product trapezoidal_difference (take d k) f) trapezoidal_difference_lem

  trapezoidal_tensor : (k : List ℕ) → Memᴰ k (delivered_of es)
      → pos (256 ^ d) *ℤ tensor_rule k (reading_in es) ≡ pos (2 ^ 20) *ℤ tensor_product trapezoidal_rule (take d k) f
  trapezoidal_tensor k n =
      trapezoidal-facts.tensor_job_axes d k (reading_in es) P.integrand v.settings.axes.1 (sum_facts.index m v k n)
      (sum_facts.agree m P v read k n)

  pub trapezoidal_combination : pos (256 ^ d) *ℤ cross_of es
      ≡ pos (2 ^ 20) *ℤ sum_of (delivered_of es) (λ k. coefficient (delivered_of es) k *ℤ tensor_product trapezoidal_rule (take d k) f)
  unfolding cross_of cross_total
  trapezoidal_combination =
      sum_tied (delivered_of es) (pos (256 ^ d)) (pos (2 ^ 20)) (λ k. coefficient (delivered_of es) k *ℤ tensor_rule k (reading_in es))
      (λ k. coefficient (delivered_of es) k *ℤ tensor_product trapezoidal_rule (take d k) f) (λ k n.
      factor_tied (pos (256 ^ d)) (pos (2 ^ 20)) (coefficient (delivered_of es) k) (tensor_rule k (reading_in es))
      (tensor_product trapezoidal_rule (take d k) f) (trapezoidal_tensor k n))
