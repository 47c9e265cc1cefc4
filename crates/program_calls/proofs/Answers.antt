-- What the program's calls answer by the log, and which calls follow.
-- The idea: a delivery has the cause that the execution asks for, and with nothing wanted neither choose nor the promotion of an active place has one.
-- Assumes nothing.
use mathlib.Core.Path.{◌≡◌, refl, ap, ◌∙◌}
use mathlib.Core.Bool.{true, false, cond}
use mathlib.Core.List.{List, [], ◌∷◌}
use Prim.Native.Nat.{ℕ, ◌≤◌}
use native.Mathlib.Omega.{arith}
use borrow.Author.Tests.{ne_eqb, ltb-false}
use lib.IntN.{ℤ}
use lib.ListN.{length}
use Rattle.area.specs.declared.Settings.{Settings}
use Rattle.area.specs.Settings.{SettingsFit}
use Rattle.area.specs.Log.{Log}
use Rattle.area.proofs.Readings.{reading_facts}
use Rattle.machine.specs.Log.{first_wanted, any_wanted, Active}
use Rattle.machine.specs.Choose as choice
use Rattle.machine.specs.Promote as refining
use Rattle.machine.specs.Causes.{first_cause, short, start_causes, deliver_causes}
use Rattle.calls.specs.Replies.{refused, accepted, chosen, promotion}
use Rattle.calls.specs.Table.{Call, start, deliver, choose, promote, Answer, answer, row, causes_of, passes_check, accepted_answer, refused_answer, refusal, answer_of}
use Rattle.calls.proofs.Tests as tests
use Rattle.history.specs.Logged.{state_of, refusal_by, answer_by}
use Rattle.history.specs.Source.{Taken}
use Rattle.history.proofs.Accepts as accepts
use Rattle.running.specs.Execution.{own_lengths}
use Rattle.program_calls.specs.Calls.{own_lent, goes_on, followed_by}
use Rattle.program_calls.specs.Facts.{LastAnswer}

module _ (l : Log) where
  -- ---- a call that no cause refuses, and one that a cause does

  clear_answer : (x : Call) → refusal_by own_lent l x ≡ 0 → answer_by own_lent l x ≡ accepted_answer (passes_check own_lent true l) (state_of l) (row x)
  unfolding answer_by answer_of state_of
  clear_answer x e = rw e refl

  refused_answer_lem : (x : Call) (k : ℕ) → refusal_by own_lent l x ≡ k → (k ≡ 0 → ⊥) → answer_by own_lent l x ≡ refused_answer k (row x)
  unfolding answer_by answer_of state_of
  refused_answer_lem x k e f = rw (e, ne_eqb k 0 f) refl

  -- ---- start

  start_cause_lem : (g : Settings) → refusal_by own_lent l (start g) ≡ first_cause (start_causes own_lengths g)
  unfolding refusal causes_of row
  start_cause_lem g = refl

  pub start_taken : (g : Settings) → first_cause (start_causes own_lengths g) ≡ 0 → answer_by own_lent l (start g) ≡ answer accepted
  start_taken g e = clear_answer (start g) (start_cause_lem g ∙ e) ∙ unfold accepted_answer row in refl

  pub start_refused : (g : Settings) → (first_cause (start_causes own_lengths g) ≡ 0 → ⊥) → answer_by own_lent l (start g) ≡ answer (refused (first_cause (start_causes own_lengths g)))
  start_refused g f = refused_answer_lem (start g) (first_cause (start_causes own_lengths g)) (start_cause_lem g) f ∙ unfold refused_answer row in refl

  -- ---- deliver

  pub deliver-cause : (rs : List ℤ) (i : ℕ) → refusal_by own_lent l (deliver rs i) ≡ first_cause (deliver_causes own_lengths true l rs)
  unfolding refusal causes_of row deliver_causes
  deliver-cause rs i = refl

  pub deliver_taken : (rs : List ℤ) (i : ℕ) → first_cause (deliver_causes own_lengths true l rs) ≡ 0 → answer_by own_lent l (deliver rs i) ≡ answer accepted
  deliver_taken rs i e = clear_answer (deliver rs i) (deliver-cause rs i ∙ e) ∙ unfold accepted_answer row in refl

  pub deliver_refused : (rs : List ℤ) (i : ℕ) → (first_cause (deliver_causes own_lengths true l rs) ≡ 0 → ⊥)
      → answer_by own_lent l (deliver rs i) ≡ answer (refused (first_cause (deliver_causes own_lengths true l rs)))
  deliver_refused rs i f = refused_answer_lem (deliver rs i) (first_cause (deliver_causes own_lengths true l rs)) (deliver-cause rs i) f ∙ unfold refused_answer row in refl

  -- ---- choose, and promote of an active place, with nothing wanted
  module _ (fit : SettingsFit l.settings) (free : any_wanted l.entries ≡ false) where
    enough : short own_lent l.settings ≡ false
    enough = tests.enough own_lengths l.settings (omega arith) (reading_facts.most l.settings fit)

    none : length l.entries ≤ first_wanted l.entries
    unfolding any_wanted
    none = ltb-false (first_wanted l.entries) (length l.entries) free

    pub choose-answer : answer_by own_lent l choose ≡ answer (chosen (choice.choose l))
    choose-answer = accepts.choose-answer own_lent l enough none

    pub promote_clear : (p : ℕ) → Active l.entries p → refusal_by own_lent l (promote p) ≡ 0
    promote_clear = accepts.promote_clear own_lent l enough none

    pub promote_answer : (p : ℕ) → Active l.entries p → answer_by own_lent l (promote p) ≡ answer (promotion (refining.promote_at l p).outcome)
    promote_answer = accepts.promote_answer own_lent l enough none

  -- ---- what follows a call

  pub goes_on_lem : (x : Call) (y : Answer) (next : List Call) → answer_by own_lent l x ≡ y → goes_on y.reply ≡ true → followed_by l x next ≡ x ∷ next
  unfolding followed_by
  goes_on_lem x y next e g = ap (λ (a : Answer). x ∷ cond (goes_on a.reply) next []) e ∙ ap (λ t. x ∷ cond t next []) g

  pub stops : (x : Call) (y : Answer) (next : List Call) → answer_by own_lent l x ≡ y → goes_on y.reply ≡ false → followed_by l x next ≡ x ∷ []
  unfolding followed_by
  stops x y next e g = ap (λ (a : Answer). x ∷ cond (goes_on a.reply) next []) e ∙ ap (λ t. x ∷ cond t next []) g

-- ---- the last answer

pub only : (y z : Answer) → z ≡ y → LastAnswer y (z ∷ [])
only y z e = record { before = []; all = ap (λ (a : Answer). a ∷ []) e; taken = tt }

pub after_taken : (y z : Answer) (ys : List Answer) → Taken z → LastAnswer y ys → LastAnswer y (z ∷ ys)
after_taken y z ys t a = record { before = z ∷ a.before; all = ap (λ zs. z ∷ zs) a.all; taken = (t, a.taken) }
