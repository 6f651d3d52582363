use Rattle.{
  index_core.proofs.cells.Common.{◌≡◌, ◌<◌, ℕ},
  multi_index.specs.Axes.{label_at},
}
use Rattle.multi_index.proofs.axis.Axis.same_row.Given as goal

abbrev pub invariant-loop-level : goal.invariant-loop-level
invariant-loop-level l = (k : ℕ) → k < l.level → label_at l.self l.row k ≡ label_at l.other l.row k
