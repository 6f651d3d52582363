use Rattle.column_core.{proofs.cells.Common.{◌≡◌, ◌≤◌, ◌+◌, ℤ, List, Option, length, Some, vec_len, vec_capacity, tabulate}, specs.Rows.{AreWritten}}
use Rattle.rolling.proofs.columns.answered_rows.Given as goal

-- the rows so far were taken, their answers are written, and there is room for all
abbrev pub invariant-loop-row : goal.invariant-loop-row
invariant-loop-row g l = record {
  values : length l.values.items ≡ l.row;
  present : length l.present.items ≡ l.row;
  counted : vec_len l.values ≡ l.row;
  marked : vec_len l.present ≡ l.row;
  room : g.A.Source.count_of l.a ≤ vec_capacity l.values;
  places : g.A.Source.count_of l.a ≤ vec_capacity l.present;
  taken : g.W.Answering.has_taken l.window (tabulate l.row (g.A.Source.row_of l.a));
  same : (rows : List (Option ℤ)) → g.W.Answering.answer_of l.window rows ≡ g.W.Answering.answer_of l.initial.window rows;
  written : AreWritten (λ k. Some (g.W.Answering.answer_of l.initial.window (tabulate (k + 1) (g.A.Source.row_of l.a)))) l.row l.values.items l.present.items;
}
