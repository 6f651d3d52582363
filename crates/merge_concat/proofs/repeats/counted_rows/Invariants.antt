use Rattle.{
  column_core.proofs.cells.Common.{take},
  merge_concat.specs.Codes.{AreCounts},
}
use Rattle.merge_concat.proofs.repeats.counted_rows.Given as goal

-- the rows so far are counted
abbrev pub invariant-loop-row : goal.invariant-loop-row
invariant-loop-row l = AreCounts (take l.row l.side.codes.now) l.side.count l.counts.items
