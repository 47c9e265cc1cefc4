-- `IndexRecords::row` meets its contract: the cells of a place are its record's. Assumes nothing.
use native.Mathlib.Omega.{arith}
use Rattle.area.proofs.Views.{within_cells, row_is}
use Rattle.area.proofs.index_records.IndexRecords.row.Goals as goal

pub overflow_mul-at : goal.overflow_mul-at
overflow_mul-at c = omega (arith, within_cells c.self.inside.cells.now c.self.inside.count c.args.self.now c.self.invariant c.self.view_is c.args.place c.requires)

pub overflow_add-result : goal.overflow_add-result
overflow_add-result c = omega (arith, within_cells c.self.inside.cells.now c.self.inside.count c.args.self.now c.self.invariant c.self.view_is c.args.place c.requires)

pub offset_bounds-cells-at : goal.offset_bounds-cells-at
offset_bounds-cells-at c = omega (arith, within_cells c.self.inside.cells.now c.self.inside.count c.args.self.now c.self.invariant c.self.view_is c.args.place c.requires)

pub slice_bounds-result-end : goal.slice_bounds-result-end
slice_bounds-result-end c = omega (arith, within_cells c.self.inside.cells.now c.self.inside.count c.args.self.now c.self.invariant c.self.view_is c.args.place c.requires)

pub returns-clause-record : goal.returns-clause-record
returns-clause-record c = row_is c.self.inside.cells.now c.self.inside.count c.args.self.now c.self.invariant c.self.view_is c.args.place c.requires
