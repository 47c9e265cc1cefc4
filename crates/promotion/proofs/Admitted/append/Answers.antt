-- `promotion::Admitted::append` meets its contract: what is left to append to what is there is what was to be appended. Assumes nothing.
use mathlib.Core.Path.{◌≡◌, refl, sym, ap, ◌∙◌, subst}
use mathlib.Core.List.{List, [], ◌∷◌}
use Prim.Native.Nat.{ℕ, ◌+◌, ◌-◌}
use native.Mathlib.Omega.{arith}
use lib.ListN.{length}
use Rattle.std.specs.Prelude.{Option}
use Rattle.area.specs.Records.{records_of, held_in}
use Rattle.area.specs.Packed.{FitsByte, PackedWords}
use Rattle.area.specs.declared.IndexRecord.{IndexRecord}
use Rattle.promotion.specs.Marks.{Neighbours}
use Rattle.promotion.proofs.Marks.{marked, passing_on, passing_off, passing_end, passing_all}
use Rattle.machine.specs.Promote.{passing}
use Rattle.grid.specs.Index.{Within, forward}
use Rattle.grid.specs.Block.{block_size}
use Rattle.writing.specs.Changes.{sizes_of}
use Rattle.area.specs.Records.{Run, run_of}
use Rattle.area.specs.declared.Settings.{Settings}
use Rattle.area.specs.Settings.{reading_count}
use Rattle.area.proofs.Readings.{reading_facts}
use Rattle.writing.specs.Changes.{appended, appended_all}
use Rattle.promotion.proofs.Admitted.append.Invariants.{readings_along}
use Rattle.promotion.proofs.Admitted.append.Goals.{then-self-axis, else-self-axis}
use Rattle.promotion.proofs.Admitted.append.Goals as goal

on : (g : Settings) (k : List ℕ) (a : ℕ) (rest : List ℕ) → readings_along g k (a ∷ rest) ≡ reading_count g (forward k a) + readings_along g k rest
unfolding sizes_of
on g k a rest = reading_facts.sum g (block_size (forward k a)) (sizes_of k rest) ∙ ap (λ n. n + readings_along g k rest) (sym (reading_facts.count g (forward k a)))

all_on : (g : Settings) (rs : List IndexRecord) (n f : ℕ) (k : List ℕ) (a : ℕ) (rest : List ℕ)
    → appended_all g rs n f k (a ∷ rest) ≡ appended_all g (appended rs n f (forward k a)) (n + 1) (f + reading_count g (forward k a)) k rest
unfolding appended_all
all_on g rs n f k a rest = refl

all_off : (g : Settings) (rs : List IndexRecord) (n f : ℕ) (k : List ℕ) → appended_all g rs n f k [] ≡ rs
unfolding appended_all
all_off g rs n f k = refl

-- the levels of an index within the ceilings fit a byte
within-fits : {k : List ℕ} → Within k → FitsByte k
within-fits w a h = omega (arith, w.high a h)

moved : {w v : Option (List ℕ)} {c d : List ℕ} {n m : ℕ} → v ≡ w → d ≡ c → m ≡ n → PackedWords w (held_in c n) → PackedWords v (held_in d m)
moved {w} {v} {c} {d} {n} {m} e f g u =
    subst (λ x. PackedWords x (held_in d m)) (sym e) (subst (λ x. PackedWords w (held_in x m)) (sym f) (subst (λ x. PackedWords w (held_in c x)) (sym g) u))

readings_same : (g : Settings) {m n : Neighbours} → m ≡ n → readings_along g m.index m.along ≡ readings_along g n.index n.along
readings_same g e = ap (λ (n : Neighbours). readings_along g n.index n.along) e

pub loop-axis-init : goal.loop-axis-init
loop-axis-init c =
    let s = c.self.inside in
    let e = passing_all s.marks s.axes in record {
      same_length = refl;
      count = omega (arith, ap length e);
      next = omega (arith, ap (readings_along c.args.settings s.levels) e);
      rest = refl;
      left = ap (appended_all c.args.settings (records_of c.args.cells.now) c.args.held c.args.first s.levels) (sym e);
      packed = c.requires.packed;
    }

pub append-requires-clause-held_in_bounds : goal.append-requires-clause-held_in_bounds
append-requires-clause-held_in_bounds c =
    let l = c.loop-axis in
    let s = c.self.inside in
    let r = c.requires.in_bounds in
    let e = ap length (passing_on s.marks s.axes l.axis (omega arith) c.if-self-axis.true) in
    let v = ap (λ (n : Neighbours). length n.along) c.self.view_is in
    (omega (arith, l.invariant.same_length, l.invariant.count, e, v, r.0), omega (arith, l.invariant.count, e, v, r.1), omega (arith, l.invariant.next, readings_same c.args.settings c.self.view_is, r.2))

pub overflow_add-next : goal.overflow_add-next
overflow_add-next c =
    let l = c.loop-axis in
    let s = c.self.inside in
    let k = s.levels in
    let e = passing_on s.marks s.axes l.axis (omega arith) c.if-self-axis.true in
    let left = passing (s.axes - (l.axis + 1)) (l.axis + 1) (marked s.marks) in
    let readings = c.reading_count-readings.ensures ∙ ap (reading_count c.args.settings) c.forward_neighbour-neighbour.ensures in
    omega (arith, l.invariant.next, readings_same c.args.settings c.self.view_is, c.requires.in_bounds.2, ap (readings_along c.args.settings k) e ∙ on c.args.settings k l.axis left, readings)

pub loop-axis-preserved : goal.loop-axis-preserved
loop-axis-preserved c =
    let l = c.loop-axis in
    let s = c.self.inside in
    let k = s.levels in
    let left = passing (s.axes - (l.axis + 1)) (l.axis + 1) (marked s.marks) in
    elim c.if-self-axis.branch [
      | then-self-axis w ↦
          let e = passing_on s.marks s.axes l.axis (omega arith) w.if-self-axis.true in
          let size = w.reading_count-readings.ensures ∙ ap (reading_count c.args.settings) w.forward_neighbour-neighbour.ensures in
          let run = w.append.ensures.cells_after ∙ ap (λ x. record { records = appended (records_of l.cells) l.count l.next x; rest = (run_of l.cells).rest }) w.forward_neighbour-neighbour.ensures in record {
            same_length = ap length w.cells-is ∙ w.append.auto.cells ∙ l.invariant.same_length;
            count = omega (arith, w.count-is, l.invariant.count, ap length e);
            next = omega (arith, w.next-is, l.invariant.next, ap (readings_along c.args.settings k) e ∙ on c.args.settings k l.axis left, size);
            rest = ap (λ x. (run_of x).rest) w.cells-is ∙ ap (λ (u : Run). u.rest) run ∙ l.invariant.rest;
            left = l.invariant.left ∙ ap (appended_all c.args.settings (records_of l.cells) l.count l.next k) e ∙ all_on c.args.settings (records_of l.cells) l.count l.next k l.axis left
                ∙ sym
                (ap (λ x. appended_all c.args.settings (records_of x) c.if-self-axis.count c.if-self-axis.next k left) w.cells-is
                ∙ ap (λ x. appended_all c.args.settings x c.if-self-axis.count c.if-self-axis.next k left) (ap (λ (u : Run). u.records) run)
                ∙ ap (λ n. appended_all c.args.settings (appended (records_of l.cells) l.count l.next (forward k l.axis)) n c.if-self-axis.next k left) w.count-is
                ∙ ap (λ f. appended_all c.args.settings (appended (records_of l.cells) l.count l.next (forward k l.axis)) (l.count + 1) f k left) (w.next-is ∙ ap (λ x. l.next + x) size));
            packed = moved w.words-is w.cells-is w.count-is (w.append.ensures.words (within-fits (subst Within (sym w.forward_neighbour-neighbour.ensures) (c.self.invariant.within l.axis (omega arith) w.if-self-axis.true))));
          }
      | else-self-axis w ↦
          let e = passing_off s.marks s.axes l.axis (omega arith) w.if-self-axis.false in record {
            same_length = ap length w.cells-is ∙ l.invariant.same_length;
            count = omega (arith, w.count-is, l.invariant.count, ap length e);
            next = omega (arith, w.next-is, l.invariant.next, ap (readings_along c.args.settings k) e);
            rest = ap (λ x. (run_of x).rest) w.cells-is ∙ l.invariant.rest;
            left = l.invariant.left ∙ ap (appended_all c.args.settings (records_of l.cells) l.count l.next k) e
                ∙ sym
                (ap (λ x. appended_all c.args.settings (records_of x) c.if-self-axis.count c.if-self-axis.next k left) w.cells-is
                ∙ ap (λ n. appended_all c.args.settings (records_of l.cells) n c.if-self-axis.next k left) w.count-is
                ∙ ap (λ f. appended_all c.args.settings (records_of l.cells) l.count f k left) w.next-is);
            packed = moved w.words-is w.cells-is w.count-is l.invariant.packed;
          }
    ]

pub returns : goal.returns
returns c =
    let l = c.loop-axis in
    let s = c.self.inside in
    let e = passing_end s.marks s.axes l.axis (omega arith) in
    let all : l.count ≡ c.args.held + length c.args.self.now.along = omega (arith, l.invariant.count, ap length e, ap (λ (n : Neighbours). length n.along) c.self.view_is) in
    let done =
    ap (λ (n : Neighbours). appended_all c.args.settings (records_of c.args.cells.now) c.args.held c.args.first n.index n.along) (sym c.self.view_is)
    ∙ l.invariant.left ∙ ap (appended_all c.args.settings (records_of l.cells) l.count l.next s.levels) e ∙ all_off c.args.settings (records_of l.cells) l.count l.next s.levels in
    record {
      cells_after = (λ i. record { records = sym done i; rest = l.invariant.rest i });
      words = moved refl refl (sym all) l.invariant.packed;
    }
