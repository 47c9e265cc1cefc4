-- The indices made old since the last accepted start, in the order of their promotions: they lead Fig. 1 (Source.antt). The log keeps no order
-- of promotions, so the list is worked from the calls, beside the log.
use Rattle.std.specs.Prelude.{◌≡◌, ◌⊎◌, cond, List, [], ◌∷◌, ◌++◌, ℕ, eqb}
use Rattle.area.specs.declared.Settings.{Settings}
use Rattle.area.specs.Log.{Log}
use Rattle.encoding.specs.Entries.{entry_at}
use Rattle.machine.specs.Choose as choice
use Rattle.machine.specs.Promote as refining
use Rattle.calls.specs.Replies.{promotion}
use Rattle.calls.specs.Table.{Call, start, point, points, deliver, choose, promote, result, doubles, cross_total, check, answer}
use Rattle.history.specs.LentCalls.{LentCall, lengths_lent}
use Rattle.history.specs.Logged.{refusal_by, log_step, answer_by, AcceptedBy}

-- With the index k, if its promotion is *promoted*.
unfoldable pub with_promoted : refining.Outcome → List ℕ → List (List ℕ) → List (List ℕ)
with_promoted refining.spent k is = is
with_promoted refining.promoted k is = is ++ k ∷ []

-- What an accepted call makes of the list: a start begins anew, and a promotion appends the index of its place.
unfoldable pub promotions_by : Log → Call → List (List ℕ) → List (List ℕ)
promotions_by l (start g) is = []
promotions_by l (point n buffer) is = is
promotions_by l (points n buffer) is = is
promotions_by l (deliver rs i) is = is
promotions_by l choose is = is
promotions_by l (promote p) is = with_promoted (refining.promote_at l p).outcome (entry_at l.entries p).levels is
promotions_by l result is = is
promotions_by l doubles is = is
promotions_by l cross_total is = is
promotions_by l check is = is

-- A refused one leaves it.
unfoldable pub promotions_step : Log → List (List ℕ) → LentCall → List (List ℕ)
promotions_step l is x = cond (eqb (refusal_by (lengths_lent x.part) l x.call) 0) (promotions_by l x.call is) is

-- After a list of calls, from the log l and the list `is` on; after a start the list is empty.
unfoldable pub promotions_after : Log → List (List ℕ) → List LentCall → List (List ℕ)
promotions_after l is [] = is
promotions_after l is (x ∷ xs) = promotions_after (log_step l x) (promotions_step l is x) xs

pub record PromotionsFacts : Type 0 where
  -- an accepted start begins anew
  pub accepted_start : (l : Log) (is : List (List ℕ)) (x : LentCall) (g : Settings) → x.call ≡ start g → AcceptedBy l x → promotions_step l is x ≡ []
  -- a promote that is *promoted* appends the index of its place
  pub promoted : (l : Log) (is : List (List ℕ)) (x : LentCall) (p : ℕ) → x.call ≡ promote p → answer_by (lengths_lent x.part) l (promote p) ≡ answer (promotion refining.promoted)
      → promotions_step l is x ≡ is ++ (entry_at l.entries p).levels ∷ []
  -- one that is spent, and any refused call, leave the list
  pub spent : (l : Log) (is : List (List ℕ)) (x : LentCall) (p : ℕ) → x.call ≡ promote p → answer_by (lengths_lent x.part) l (promote p) ≡ answer (promotion refining.spent)
      → promotions_step l is x ≡ is
  pub refused : (l : Log) (is : List (List ℕ)) (x : LentCall) → (AcceptedBy l x → ⊥) → promotions_step l is x ≡ is
  -- so does any call that is neither a start nor a promote
  pub other : (l : Log) (is : List (List ℕ)) (x : LentCall) → ((g : Settings) → x.call ≡ start g → ⊥) → ((p : ℕ) → x.call ≡ promote p → ⊥) → promotions_step l is x ≡ is

-- ---- lists by the rule

-- If the call is a promote that is *promoted*, its place is the one that choose would have answered.
abbrev pub PlaceChosen : Log → LentCall → Type 0
PlaceChosen l x = (p : ℕ) → x.call ≡ promote p → answer_by (lengths_lent x.part) l (promote p) ≡ answer (promotion refining.promoted) → choice.choose l ≡ choice.place p

-- Some call of the list is an accepted start, which begins anew.
abbrev pub BeginsAnew : Log → List LentCall → Type 0
BeginsAnew l [] = ⊥
BeginsAnew l (x ∷ xs) = ((g : Settings) × (x.call ≡ start g) × AcceptedBy l x) ⊎ BeginsAnew (log_step l x) xs

-- Each place promoted since the last accepted start was so.
abbrev pub AllChosen : Log → List LentCall → Type 0
AllChosen l [] = Unit {0}
AllChosen l (x ∷ xs) = (PlaceChosen l x ⊎ BeginsAnew (log_step l x) xs) × AllChosen (log_step l x) xs
