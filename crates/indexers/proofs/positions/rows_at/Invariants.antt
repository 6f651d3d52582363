use Rattle.{
  column_core.proofs.cells.Common.{◌≡◌, drop, List, Label},
  index_core.specs.pick.Positions.{rows_at},
  indexers.proofs.TurnLaws.{added},
}
use Rattle.indexers.proofs.positions.rows_at.Given as goal

-- the rows so far, before those of the other positions
abbrev pub invariant-loop-k : goal.invariant-loop-k
invariant-loop-k l = added l.places (rows_at {K = List Label} l.count (drop l.k l.positions)) ≡ rows_at {K = List Label} l.count l.positions
