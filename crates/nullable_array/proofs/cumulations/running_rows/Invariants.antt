use Rattle.{
  column_core.{proofs.cells.Common.{◌≡◌, ◌≤◌, length, Some, None, vec_len, vec_capacity}, specs.Rows.{AreWritten}},
  nullable_array.specs.Folds.{folded, running_row},
}
use Rattle.nullable_array.proofs.cumulations.running_rows.Given as goal

-- what the rows so far come to, the rows that are written, and room for all
abbrev pub invariant-loop-row : goal.invariant-loop-row
invariant-loop-row g l = record {
  values : length l.values.items ≡ l.row;
  present : length l.present.items ≡ l.row;
  counted : vec_len l.values ≡ l.row;
  marked : vec_len l.present ≡ l.row;
  room : g.A.Source.count_of l.a ≤ vec_capacity l.values;
  places : g.A.Source.count_of l.a ≤ vec_capacity l.present;
  so_far : l.so_far ≡ folded (g.F.Fold.step_of l.fold) None l.row (g.A.Source.row_of l.a);
  written : AreWritten (λ k. Some (running_row (g.F.Fold.step_of l.fold) (g.A.Source.row_of l.a) k)) l.row l.values.items l.present.items;
}
