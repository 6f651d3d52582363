use Rattle.{
  column_core.proofs.cells.Common.{◌≡◌},
  csv_frames.specs.Labels.{IsSkipped},
}
use Rattle.csv_frames.proofs.labels.free_label.Given as goal

-- no number so far was free
abbrev pub invariant-loop-number : goal.invariant-loop-number
invariant-loop-number l = record {
  taken : l.taken ≡ l.fn.taken;
  skipped : IsSkipped l.fn.taken l.label l.number-counter;
}
