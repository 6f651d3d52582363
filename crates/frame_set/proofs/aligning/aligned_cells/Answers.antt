use Rattle.{
  frame_parts.proofs.Common.{arith, length, refl, All, CellColumn, IsPlaceOf},
  frame_set.proofs.{AlignLaws.{taken_given}, PutCases.{column_is_given, has_column, taken_column}},
}
use Rattle.frame_set.proofs.aligning.aligned_cells.Goals as goal

pub returns-clause-cells : goal.returns-clause-cells
returns-clause-cells c =
    let column = c.column.result in
    let made : CellColumn = record { kind = column.kind; cells = c.in_ok-cells_at.field-0 } in
    grind (arith, c.in_ok-rows.ensures.rows, taken_column c.args.dict.now c.args.series.now c.in_ok-rows.rows column made c.column.ensures.column refl c.in_ok-cells_at.ensures)

pub returns-clause-given : goal.returns-clause-given
returns-clause-given c =
    let below : All (IsPlaceOf (length c.column.result.cells)) c.in_ok-rows.rows = grind arith in
    rw c.in_ok-cells_at.ensures (taken_given _ _ _
    (search (column_is_given, has_column)) below)
