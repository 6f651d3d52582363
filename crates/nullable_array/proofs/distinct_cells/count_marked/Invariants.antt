use Rattle.{
  column_core.proofs.cells.Common.{◌≡◌, ◌≤◌, [], length, int_eq},
  indexmap.specs.IndexSet.{insert_key},
  nullable_array.specs.{Distincts.{AreMarked}, Folds.{folded}},
}
use Rattle.nullable_array.proofs.distinct_cells.count_marked.Given as goal

-- the different numbers of the rows so far have marks, and are counted
abbrev pub invariant-loop-row : goal.invariant-loop-row
invariant-loop-row g l = record {
  marked : AreMarked l.least l.marks (folded (insert_key int_eq) [] l.row (g.A.Source.row_of l.a));
  count : l.count ≡ length (folded (insert_key int_eq) [] l.row (g.A.Source.row_of l.a));
  few : l.count ≤ l.row;
}
