use Rattle.column_core.proofs.cells.Common.{◌≡◌, ℕ, List, Int64, AreGiven}
use Rattle.tests_groups.proofs.groups.numbers.Given as goal

-- numbers so far
abbrev pub invariant-loop-value : goal.invariant-loop-value
invariant-loop-value l = record {
  kind : l.column.kind ≡ Int64;
  given : (texts : List (List ℕ)) → AreGiven texts l.column.cells;
}
