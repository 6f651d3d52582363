-- The operators, by what they do.
use Rattle.std.specs.Prelude.{Bool, true, false, Option, Some, ◌-ℤ◌, ◌*ℤ◌, Result}
use Rattle.std.specs.declared.cmp.Ordering.{Ordering}
use Rattle.std.specs.declared.cmp.Ordering.TheVariants.{Less, Equal, Greater}
use Rattle.cell_core.specs.declared.cell.Kind.{Kind}
use Rattle.cell_core.specs.declared.cell.Cell.{Cell}
use Rattle.column_core.specs.declared.lanes.Lane.{Lane}
use Rattle.column_core.specs.Columns.{CellColumn, column_with}
use Rattle.column_core.specs.Lanes.{lane_row}
use Rattle.column_core.specs.cells.Cell.{CellValue}
use Rattle.column_core.specs.cells.Column.{ColumnValue, ColumnFault, zero_division, column_if, try_pairs}
use Rattle.column_core.specs.cells.Operator.{floor_quotient, floor_rest, add_cells, number_cells, division_cells, compare_cells, and_cells, or_cells, xor_cells, number_kind, sum_kind, comparison_kind, truth_kind, scalar_column}
use Rattle.column_core.specs.cells.Symbol as symbol
use Rattle.column_operators.specs.declared.ops.Operator.{Operator}
use Rattle.column_operators.specs.declared.ops.Operator.TheVariants.{Add, Sub, Mul, FloorDiv, Mod, Eq, Ne, Lt, Le, Gt, Ge, And, Or, Xor}
use Rattle.column_operators.specs.declared.ops.Relation.{Relation}
use Rattle.column_operators.specs.declared.ops.Task.{Task}
use Rattle.column_operators.specs.declared.ops.Task.TheVariants.{Sum, Difference, Product, Quotient, Rest, Compare, Both, Either, OneOf}

-- the operator of the language
abbrev pub operator_of : Operator → symbol.Binary
operator_of Add = symbol.add
operator_of Sub = symbol.sub
operator_of Mul = symbol.mul
operator_of FloorDiv = symbol.floor_div
operator_of Mod = symbol.mod_
operator_of Eq = symbol.eq
operator_of Ne = symbol.ne
operator_of Lt = symbol.lt
operator_of Le = symbol.le
operator_of Gt = symbol.gt
operator_of Ge = symbol.ge
operator_of And = symbol.and
operator_of Or = symbol.or
operator_of Xor = symbol.xor

-- whether two values in this order are in the relation
abbrev pub passes : Relation → Ordering → Bool
passes r Less = r.less
passes r Equal = r.equal
passes r Greater = r.greater

abbrev pub task_cell : Task → CellValue → CellValue → Option CellValue
task_cell Sum a b = Some (add_cells a b)
task_cell Difference a b = Some (number_cells (λ x y. x -ℤ y) a b)
task_cell Product a b = Some (number_cells (λ x y. x *ℤ y) a b)
task_cell Quotient a b = division_cells floor_quotient a b
task_cell Rest a b = division_cells floor_rest a b
task_cell (Compare r) a b = Some (compare_cells (passes r) a b)
task_cell Both a b = Some (and_cells a b)
task_cell Either a b = Some (or_cells a b)
task_cell OneOf a b = Some (xor_cells a b)

abbrev pub task_kind : Task → Kind → Kind → Option Kind
task_kind Sum = sum_kind
task_kind Difference = number_kind
task_kind Product = number_kind
task_kind Quotient = number_kind
task_kind Rest = number_kind
task_kind (Compare r) = comparison_kind
task_kind Both = truth_kind
task_kind Either = truth_kind
task_kind OneOf = truth_kind

abbrev pub task_column : Task → ColumnValue → ColumnValue → Result ColumnValue ColumnFault
task_column task a b = column_if (task_kind task a.kind b.kind) zero_division (try_pairs (task_cell task) 0 a.cells b.cells)

-- a task on a column with a scalar beside each cell, on the left where this is so
abbrev pub scalar_task : Task → ColumnValue → CellValue → Bool → Result ColumnValue ColumnFault
scalar_task task a c true = task_column task (scalar_column a c) a
scalar_task task a c false = task_column task a (scalar_column a c)

-- the cells of a lane
abbrev pub lane_column : {T : Type 0} → Kind → (Option T → Cell) → Lane T → CellColumn
lane_column kind cell a = column_with kind cell a.count (lane_row a.values.now a.present.now a.start a.stride a.back)
