-- `promotion::Admitted::append` meets its contract: what is left to append to what is there is what was to be appended. Assumes nothing.
use mathlib.Core.Path.{◌≡◌}
use mathlib.Core.List.{List}
use Prim.Native.Nat.{ℕ, ◌+◌, ◌-◌}
use lib.ListN.{length}
use Rattle.area.specs.Records.{records_of, held_in}
use Rattle.area.specs.Packed.{PackedWords}
use Rattle.promotion.specs.Marks.{marked_axes}
use Rattle.promotion.proofs.Marks.{marked}
use Rattle.machine.specs.Promote.{passing}
use Rattle.writing.specs.Changes.{sizes_of}
use Rattle.area.specs.Records.{run_of}
use Rattle.area.specs.declared.Settings.{Settings}
use Rattle.area.specs.Settings.{readings_for}
use Rattle.writing.specs.Changes.{appended_all}
use Rattle.promotion.proofs.Admitted.append.Given as goal

-- the readings of the blocks along the axes
abbrev pub readings_along : Settings → List ℕ → List ℕ → ℕ
readings_along g k axes = readings_for g (sizes_of k axes)

abbrev pub invariant-loop-axis : goal.invariant-loop-axis
invariant-loop-axis l =
    let s = l.self-inside in
    let all = marked_axes s.axes s.marks in
    let left = passing (s.axes - l.axis) l.axis (marked s.marks) in
    record {
      same_length : length l.cells ≡ length l.initial.cells;
      count : l.count + length left ≡ l.held + length all;
      next : l.next + readings_along l.settings s.levels left ≡ l.first + readings_along l.settings s.levels all;
      rest : (run_of l.cells).rest ≡ (run_of l.initial.cells).rest;
      left : appended_all l.settings (records_of l.initial.cells) l.held l.first s.levels all ≡ appended_all l.settings (records_of l.cells) l.count l.next s.levels left;
      packed : PackedWords l.words (held_in l.cells l.count);
    }
