-- What it means that a double loses nothing: it is finite, and it is the fraction.
use Rattle.std.specs.Prelude.{◌≡◌, Bool, true, false, not, ℕ, ◌*◌, T, ℤ, pos, neg_ℤ, ◌*ℤ◌, Float}
use Rattle.std.specs.Float.{nan, inf, fin}
use Rattle.std.specs.Float.Ieee.{up, down, is_nan}
use Rattle.doubles.specs.declared.Report.{Report}

-- n with a sign; `true` is minus.
abbrev pub signed : Bool → ℕ → ℤ
signed false n = pos n
signed true n = neg_ℤ (pos n)

-- x is finite and is the number z / c, for a c above 0. A finite double is ±m · 2^e, and 2^e is the fraction up e / down e; the products across
-- are equal.
abbrev pub LosesNothing : Float → ℤ → ℕ → Type 0
LosesNothing nan z c = ⊥
LosesNothing (inf s) z c = ⊥
LosesNothing (fin s m e) z c = signed s (m * up e * c) ≡ z *ℤ pos (down e)

-- x is not a NaN; none of a report's three is one. (An infinity passes; what loses nothing is finite.)
abbrev pub NotNan : Float → Type 0
NotNan x = T (not (is_nan x))

abbrev pub NoneNan : Report → Type 0
NoneNan r = NotNan r.mean × NotNan r.pending × NotNan r.largest
