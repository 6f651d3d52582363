use Rattle.{
  column_core.proofs.cells.Common.{arith, string_bytes},
  csv_frames.proofs.SkippedLaws.{label_found},
}
use Rattle.csv_frames.proofs.labels.free_label.Goals as goal

pub returns-then-branch-clause-label : goal.returns-then-branch-clause-label
returns-then-branch-clause-label c = label_found _ _ _ c.loop-number.number-counter _ (omega arith) (omega arith) c.loop-number.invariant.skipped c.in_ok-numbered.ensures.ok (grind (arith, string_bytes))
