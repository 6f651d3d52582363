use Rattle.{
  column_core.proofs.cells.Common.{◌≡◌, ◌++◌, map, false, list_any},
  csv_frames.specs.Growing.{is_mixed, column_so_far},
}
use Rattle.csv_frames.proofs.columns.columns_of.Given as goal

-- the columns so far, before the others
abbrev pub invariant-loop-column : goal.invariant-loop-column
invariant-loop-column l = record {
  kept : list_any is_mixed l.column-iterator.rest.items ≡ false;
  made : l.made ++ map (column_so_far l.rows) l.column-iterator.rest.items ≡ map (column_so_far l.rows) l.fn.columns.items;
}
