use Rattle.{
  meaning_pick.{proofs.cells.Common.{◌≡◌, take}, specs.Rows.{rows_where}},
  index_core.specs.Labels.{same_number},
}
use Rattle.index_core.proofs.listed.places_of.Given as goal

-- the places so far
abbrev pub invariant-loop-place : goal.invariant-loop-place
invariant-loop-place l = l.places ≡ rows_where (same_number l.label) 0 (take l.place l.labels)
