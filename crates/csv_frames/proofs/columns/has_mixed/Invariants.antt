use Rattle.{
  column_core.proofs.cells.Common.{◌≡◌, drop, list_any},
  csv_frames.specs.Growing.{is_mixed},
}
use Rattle.csv_frames.proofs.columns.has_mixed.Given as goal

-- none so far
abbrev pub invariant-loop-place : goal.invariant-loop-place
invariant-loop-place l = list_any is_mixed (drop l.place l.columns) ≡ list_any is_mixed l.columns
