-- What a caller of an exported function learns is the contract of that call.
-- Assumes nothing.
use mathlib.Core.Path.{refl, ap}
use mathlib.Core.Bool.{Bool, cond}
use Prim.Native.Nat.{ℕ}
use Rattle.history.specs.Functions.{FunctionContracts}

pub function_contracts : FunctionContracts
function_contracts =
    record {
      of_start = λ κs a r s m. (m.0, m.1, refl, refl, refl);
      of_point = λ κs a r s m. (m.0, m.1, (refl, refl, refl), refl);
      of_points = λ κs a r s m. (m.0, m.1, m.2, (refl, refl, refl));
      of_deliver = λ κs a r s m. (m.0, m.1, refl, refl);
      of_choose = λ κs a r s m. (m.0, m.1, (refl, refl, refl), refl);
      of_promote = λ κs a r s m. (m.0, m.1.0, m.1.1, refl, refl);
      of_result = λ κs a r s m. (m.0, m.1, (refl, refl, refl), refl);
      of_doubles = λ κs a r s m. (m.0, m.1, (refl, refl, refl), refl);
      of_cross = λ κs a r s m. (m.0, m.1, (refl, refl, refl), refl);
      of_check = λ κs a r s m. (ap (λ (b : Bool). cond {A = ℕ} b 1 0) m, (refl, refl, refl), refl, refl);
    }
