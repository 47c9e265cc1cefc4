-- Sums over the box of all indices with levels 1 to n, the mixed difference and its adjoint, and summation by parts along every
-- axis.
-- The idea: along one axis Σ χ(i)·(T(i) − T(i−1)) = Σ (χ(i) − χ(i+1))·T(i) but for the two ends, where T and χ are 0.
-- Assumes nothing.
use mathlib.Core.Path.{◌≡◌, refl, sym, ap, ap₂, ◌∙◌, fun_ext}
use mathlib.Core.List.{List, [], ◌∷◌, ◌++◌}
use Prim.Native.Nat.{ℕ, zero, suc}
use native.Mathlib.Omega.{arith}
use lib.ListN.{length}
use lib.IntN.{ℤ, pos, neg_ℤ, ◌+ℤ◌, ◌-ℤ◌, ◌*ℤ◌, +ℤ_idr, *ℤ-zero, zero-*ℤ}
use Rattle.sums.specs.Sums.{sum_to}
use Rattle.sums.proofs.Ring.{ring}
use Rattle.sums.proofs.Sums.{sum_to_cong, sum_to-cong<, sum_to-zero, sum_to_add, sum_to_neg, sum_to_mul}
use Rattle.grid.proofs.Levels.{Levels}

-- ---- F at every list of d levels, each from 1 to n

unfoldable pub box_sum : ℕ → ℕ → (List ℕ → ℤ) → ℤ
box_sum n zero F = F []
box_sum n (suc d) F = sum_to n (λ i. box_sum n d (λ l. F (suc i ∷ l)))

pub box_sum_cong : (n d : ℕ) {F G : List ℕ → ℤ} → ((k : List ℕ) → F k ≡ G k) → box_sum n d F ≡ box_sum n d G
box_sum_cong n d h = ap (box_sum n d) (fun_ext h)

pub box_sum_zero : (n d : ℕ) → box_sum n d (λ k. pos 0) ≡ pos 0
unfolding box_sum
box_sum_zero n zero = refl
box_sum_zero n (suc d) = sum_to_cong n (λ i. box_sum_zero n d) ∙ sum_to-zero n

pub box_sum_add : (n d : ℕ) (F G : List ℕ → ℤ) → box_sum n d (λ k. F k +ℤ G k) ≡ box_sum n d F +ℤ box_sum n d G
unfolding box_sum
box_sum_add n zero F G = refl
box_sum_add n (suc d) F G =
    sum_to_cong n (λ i. box_sum_add n d (λ l. F (suc i ∷ l)) (λ l. G (suc i ∷ l)))
    ∙ sum_to_add n (λ i. box_sum n d (λ l. F (suc i ∷ l))) (λ i. box_sum n d (λ l. G (suc i ∷ l)))

box_sum_neg : (n d : ℕ) (F : List ℕ → ℤ) → box_sum n d (λ k. neg_ℤ (F k)) ≡ neg_ℤ (box_sum n d F)
unfolding box_sum
box_sum_neg n zero F = refl
box_sum_neg n (suc d) F =
    sum_to_cong n (λ i. box_sum_neg n d (λ l. F (suc i ∷ l))) ∙ sum_to_neg n (λ i. box_sum n d (λ l. F (suc i ∷ l)))

box_sum_sub : (n d : ℕ) (F G : List ℕ → ℤ) → box_sum n d (λ k. F k -ℤ G k) ≡ box_sum n d F -ℤ box_sum n d G
box_sum_sub n d F G = box_sum_add n d F (λ k. neg_ℤ (G k)) ∙ ap (λ x. box_sum n d F +ℤ x) (box_sum_neg n d G)

pub box_sum_mul : (n d : ℕ) (a : ℤ) (F : List ℕ → ℤ) → box_sum n d (λ k. a *ℤ F k) ≡ a *ℤ box_sum n d F
unfolding box_sum
box_sum_mul n zero a F = refl
box_sum_mul n (suc d) a F =
    sum_to_cong n (λ i. box_sum_mul n d a (λ l. F (suc i ∷ l))) ∙ sum_to_mul n a (λ i. box_sum n d (λ l. F (suc i ∷ l)))

-- only the lists of the box count
pub box_sum_only : (n d : ℕ) (F G : List ℕ → ℤ) → ((k : List ℕ) → length k ≡ d → Levels n k → F k ≡ G k) → box_sum n d F ≡ box_sum n d G
unfolding box_sum
box_sum_only n zero F G h = h [] refl tt
box_sum_only n (suc d) F G h =
    sum_to-cong< n (λ i. box_sum n d (λ l. F (suc i ∷ l))) (λ i. box_sum n d (λ l. G (suc i ∷ l))) (λ i below.
    box_sum_only n d (λ l. F (suc i ∷ l)) (λ l. G (suc i ∷ l)) (λ k e w. h (suc i ∷ k) (ap suc e) (omega arith, below, w)))

-- ---- the mixed difference of T at k: along each axis, T less T one level lower (T counts as 0 at level 0)

unfoldable pub nabla : List ℕ → (List ℕ → ℤ) → ℤ
nabla [] T = T []
nabla (zero ∷ ks) T = nabla ks (λ l. T (zero ∷ l))
nabla (suc k ∷ ks) T = nabla ks (λ l. T (suc k ∷ l)) -ℤ nabla ks (λ l. T (k ∷ l))

pub nabla_cong : (k : List ℕ) {S T : List ℕ → ℤ} → ((l : List ℕ) → S l ≡ T l) → nabla k S ≡ nabla k T
nabla_cong k h = ap (nabla k) (fun_ext h)

pub nabla_zero : (k : List ℕ) → nabla k (λ l. pos 0) ≡ pos 0
unfolding nabla
nabla_zero [] = refl
nabla_zero (zero ∷ ks) = nabla_zero ks
nabla_zero (suc k ∷ ks) = rw (nabla_zero ks)

nabla_add : (k : List ℕ) (S T : List ℕ → ℤ) → nabla k (λ l. S l +ℤ T l) ≡ nabla k S +ℤ nabla k T
unfolding nabla
nabla_add [] S T = refl
nabla_add (zero ∷ ks) S T = nabla_add ks (λ l. S (zero ∷ l)) (λ l. T (zero ∷ l))
nabla_add (suc k ∷ ks) S T =
    ap₂ ◌-ℤ◌ (nabla_add ks (λ l. S (suc k ∷ l)) (λ l. T (suc k ∷ l))) (nabla_add ks (λ l. S (k ∷ l)) (λ l. T (k ∷ l)))
    ∙ shuffle (nabla ks (λ l. S (suc k ∷ l))) (nabla ks (λ l. T (suc k ∷ l))) (nabla ks (λ l. S (k ∷ l))) (nabla ks (λ l. T (k ∷ l)))
  where
    shuffle : (a b c d : ℤ) → (a +ℤ b) -ℤ (c +ℤ d) ≡ (a -ℤ c) +ℤ (b -ℤ d)
    shuffle a b c d = simp ring

mul_sub : (a b c : ℤ) → a *ℤ (b -ℤ c) ≡ a *ℤ b -ℤ a *ℤ c
mul_sub a b c = simp ring

nabla_mul : (k : List ℕ) (a : ℤ) (T : List ℕ → ℤ) → nabla k (λ l. a *ℤ T l) ≡ a *ℤ nabla k T
unfolding nabla
nabla_mul [] a T = refl
nabla_mul (zero ∷ ks) a T = nabla_mul ks a (λ l. T (zero ∷ l))
nabla_mul (suc k ∷ ks) a T =
    ap₂ ◌-ℤ◌ (nabla_mul ks a (λ l. T (suc k ∷ l))) (nabla_mul ks a (λ l. T (k ∷ l)))
    ∙ sym (mul_sub a (nabla ks (λ l. T (suc k ∷ l))) (nabla ks (λ l. T (k ∷ l))))

nabla_sum : (k : List ℕ) (n : ℕ) (T : ℕ → List ℕ → ℤ) → nabla k (λ l. sum_to n (λ i. T i l)) ≡ sum_to n (λ i. nabla k (T i))
unfolding sum_to
nabla_sum k zero T = nabla_zero k
nabla_sum k (suc n) T = nabla_add k (λ l. sum_to n (λ i. T i l)) (T n) ∙ ap (λ x. x +ℤ nabla k (T n)) (nabla_sum k n T)

pub nabla_weighted : (k : List ℕ) (n : ℕ) (a : ℕ → ℤ) (T : ℕ → List ℕ → ℤ) → nabla k (λ l. sum_to n (λ i. a i *ℤ T i l)) ≡ sum_to n (λ i. a i *ℤ nabla k (T i))
nabla_weighted k n a T = nabla_sum k n (λ i l. a i *ℤ T i l) ∙ sum_to_cong n (λ i. nabla_mul k (a i) (T i))

-- ---- its adjoint: along each axis, χ less χ one level higher

unfoldable pub delta : List ℕ → (List ℕ → ℤ) → ℤ
delta [] χ = χ []
delta (k ∷ ks) χ = delta ks (λ l. χ (k ∷ l)) -ℤ delta ks (λ l. χ (suc k ∷ l))

-- χ is asked at lists of as many levels only
pub delta_only : (k : List ℕ) (χ ψ : List ℕ → ℤ) → ((l : List ℕ) → length l ≡ length k → χ l ≡ ψ l) → delta k χ ≡ delta k ψ
unfolding delta
delta_only [] χ ψ h = h [] refl
delta_only (k ∷ ks) χ ψ h =
    ap₂ ◌-ℤ◌ (delta_only ks (λ l. χ (k ∷ l)) (λ l. ψ (k ∷ l)) (λ l e. h (k ∷ l) (ap suc e)))
    (delta_only ks (λ l. χ (suc k ∷ l)) (λ l. ψ (suc k ∷ l)) (λ l e. h (suc k ∷ l) (ap suc e)))

pub delta_zero : (k : List ℕ) → delta k (λ l. pos 0) ≡ pos 0
unfolding delta
delta_zero [] = refl
delta_zero (k ∷ ks) = rw (delta_zero ks)

-- ---- summation by parts along one axis, with the boundary terms

parts_step : (s a b c d : ℤ) → s +ℤ (b -ℤ d) +ℤ (a -ℤ b) ≡ s +ℤ (a -ℤ c) +ℤ (c -ℤ d)
parts_step s a b c d = simp ring

parts : (n : ℕ) (P : ℕ → ℕ → ℤ)
    → sum_to n (λ i. P (suc i) (suc i) -ℤ P (suc i) i) ≡ sum_to n (λ i. P (suc i) (suc i) -ℤ P (suc (suc i)) (suc i)) +ℤ (P (suc n) n -ℤ P 1 0)
unfolding sum_to
parts zero P = sym (simp ring)
parts (suc n) P =
    ap (λ x. x +ℤ (P (suc n) (suc n) -ℤ P (suc n) n)) (parts n P)
    ∙ parts_step (sum_to n (λ i. P (suc i) (suc i) -ℤ P (suc (suc i)) (suc i))) (P (suc n) (suc n)) (P (suc n) n) (P (suc (suc n)) (suc n)) (P 1 0)

-- ---- along every axis

sub_mul : (a b c : ℤ) → (a -ℤ b) *ℤ c ≡ a *ℤ c -ℤ b *ℤ c
sub_mul a b c = simp ring

-- the sum that a pair of levels i, j of the first axis leaves to the axes behind it
across : (n d : ℕ) (χ T : List ℕ → ℤ) → ℕ → ℕ → ℤ
across n d χ T i j = box_sum n d (λ l. delta l (λ m. χ (i ∷ m)) *ℤ T (j ∷ l))

across_left : (n d : ℕ) (χ T : List ℕ → ℤ)
    → ((i j : ℕ) → box_sum n d (λ l. χ (i ∷ l) *ℤ nabla l (λ m. T (j ∷ m))) ≡ across n d χ T i j)
    → (i : ℕ) → box_sum n d (λ l. χ (suc i ∷ l) *ℤ nabla (suc i ∷ l) T) ≡ across n d χ T (suc i) (suc i) -ℤ across n d χ T (suc i) i
unfolding nabla
across_left n d χ T ih i =
    box_sum_cong n d (λ l. mul_sub (χ (suc i ∷ l)) (nabla l (λ m. T (suc i ∷ m))) (nabla l (λ m. T (i ∷ m))))
    ∙ box_sum_sub n d (λ l. χ (suc i ∷ l) *ℤ nabla l (λ m. T (suc i ∷ m))) (λ l. χ (suc i ∷ l) *ℤ nabla l (λ m. T (i ∷ m)))
    ∙ ap₂ ◌-ℤ◌ (ih (suc i) (suc i)) (ih (suc i) i)

across_right : (n d : ℕ) (χ T : List ℕ → ℤ) (i : ℕ)
    → across n d χ T (suc i) (suc i) -ℤ across n d χ T (suc (suc i)) (suc i) ≡ box_sum n d (λ l. delta (suc i ∷ l) χ *ℤ T (suc i ∷ l))
unfolding across delta
across_right n d χ T i =
    sym (box_sum_sub n d (λ l. delta l (λ m. χ (suc i ∷ m)) *ℤ T (suc i ∷ l)) (λ l. delta l (λ m. χ (suc (suc i) ∷ m)) *ℤ T (suc i ∷ l)))
    ∙ box_sum_cong n d (λ l. sym (sub_mul (delta l (λ m. χ (suc i ∷ m))) (delta l (λ m. χ (suc (suc i) ∷ m))) (T (suc i ∷ l))))

across_top : (n d : ℕ) (χ T : List ℕ → ℤ) (i j : ℕ) → ((l : List ℕ) → χ (i ∷ l) ≡ pos 0) → across n d χ T i j ≡ pos 0
unfolding across
across_top n d χ T i j h =
    box_sum_cong n d (λ l.
    ap (λ (f : List ℕ → ℤ). delta l f *ℤ T (j ∷ l)) (fun_ext h) ∙ ap (λ x. x *ℤ T (j ∷ l)) (delta_zero l) ∙ zero-*ℤ (T (j ∷ l)))
    ∙ box_sum_zero n d

across_bottom : (n d : ℕ) (χ T : List ℕ → ℤ) (i j : ℕ) → ((l : List ℕ) → T (j ∷ l) ≡ pos 0) → across n d χ T i j ≡ pos 0
unfolding across
across_bottom n d χ T i j h =
    box_sum_cong n d (λ l. ap (λ x. delta l (λ m. χ (i ∷ m)) *ℤ x) (h l) ∙ *ℤ-zero (delta l (λ m. χ (i ∷ m))))
    ∙ box_sum_zero n d

-- T is 0 where a level is 0, χ is 0 where a level is n + 1
pub by_parts : (n d : ℕ) (χ T : List ℕ → ℤ)
    → ((p l : List ℕ) → T (p ++ (0 ∷ l)) ≡ pos 0)
    → ((p l : List ℕ) → χ (p ++ (suc n ∷ l)) ≡ pos 0)
    → box_sum n d (λ k. χ k *ℤ nabla k T) ≡ box_sum n d (λ k. delta k χ *ℤ T k)
unfolding box_sum nabla delta across
by_parts n zero χ T low high = refl
by_parts n (suc d) χ T low high =
    sum_to_cong n (across_left n d χ T (λ i j. by_parts n d (λ l. χ (i ∷ l)) (λ l. T (j ∷ l)) (λ p l. low (j ∷ p) l) (λ p l. high (i ∷ p) l)))
    ∙ parts n (across n d χ T)
    ∙ ap₂ ◌+ℤ◌ (sum_to_cong n (across_right n d χ T)) (ap₂ ◌-ℤ◌ (across_top n d χ T (suc n) n (high [])) (across_bottom n d χ T 1 0 (low [])))
    ∙ +ℤ_idr _
