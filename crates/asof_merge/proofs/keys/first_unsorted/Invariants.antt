use Rattle.{
  column_core.proofs.cells.Common.{◌≡◌, tabulate},
  asof_merge.specs.Keys.{key_before, AreInOrder},
}
use Rattle.asof_merge.proofs.keys.first_unsorted.Given as goal

-- none of the rows so far breaks the order
abbrev pub invariant-loop-row : goal.invariant-loop-row
invariant-loop-row g l = record {
  before : l.before ≡ key_before (tabulate (g.S.Source.count_of l.rows) (g.S.Source.row_of l.rows)) l.row;
  in_order : AreInOrder (tabulate (g.S.Source.count_of l.rows) (g.S.Source.row_of l.rows)) l.row;
}
