-- A list laid over the front of another.
-- The idea: a part of the other that is no shorter than what is laid over it can be cut off before or after.
-- Assumes nothing.
use mathlib.Core.Path.{◌≡◌, ap, sym, ◌∙◌}
use mathlib.Core.List.{List, ◌++◌, append_assoc}
use Prim.Native.Nat.{ℕ, ◌+◌, ◌-◌, ◌≤◌}
use native.Mathlib.Omega.{arith}
use lib.ListN.{length, take, drop, take-append-drop, length-append, length-drop}
use lib.Seq.{take-append-add, drop-append-le, drop-append_seam, length-take-le, take-add, drop_at}

-- f laid over c; what lies past it stays.
abbrev pub over : {A : Type 0} → List A → List A → List A
over f c = f ++ drop (length f) c

module _ {A : Type 0} (f : List A) (n : ℕ) (room : length f ≤ n) where
  beyond : length f + (n - length f) ≡ n
  beyond = omega (arith, room)

  -- what is dropped from a part is a part of what is dropped
  drop_part : (c : List A) → n ≤ length c → drop (length f) (take n c) ≡ take (n - length f) (drop (length f) c)
  drop_part c h =
      ap (λ m. drop (length f) (take m c)) (sym beyond)
      ∙ ap (drop (length f)) (take-add (length f) (n - length f) c)
      ∙ drop_at (take (length f) c) (take (n - length f) (drop (length f) c)) (length f) (length-take-le (length f) c (omega (arith, room, h)))

  pub over_part : (c : List A) → n ≤ length c → take n (over f c) ≡ over f (take n c)
  over_part c h =
      ap (λ m. take m (over f c)) (sym beyond)
      ∙ take-append-add f (drop (length f) c) (n - length f)
      ∙ ap (λ l. f ++ l) (sym (drop_part c h))

  -- the part laid over, and then the rest
  pub over-whole : (c : List A) → n ≤ length c → over f (take n c) ++ drop n c ≡ over f c
  over-whole c h =
      append_assoc f (drop (length f) (take n c)) (drop n c)
      ∙ ap (λ l. f ++ l)
      (sym (drop-append-le (length f) (take n c) (drop n c) (omega (arith, length-take-le n c h, room)))
      ∙ ap (drop (length f)) (take-append-drop n c))

module _ {A : Type 0} (f c : List A) where
  pub over_twice : over f (over f c) ≡ over f c
  over_twice = ap (λ l. f ++ l) (drop-append_seam f (drop (length f) c))

  pub over-length : length f ≤ length c → length (over f c) ≡ length c
  over-length h = omega (arith, length-append f (drop (length f) c), length-drop (length f) c, h)
