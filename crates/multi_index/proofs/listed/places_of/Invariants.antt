use Rattle.index_core.{proofs.cells.Common.{◌≡◌, take}, specs.{pick.{Leading.{leads}, Rows.{rows_where}}, Labels.{same_number}}}
use Rattle.multi_index.specs.Levels.{level_tuples}
use Rattle.multi_index.proofs.listed.places_of.Given as goal

-- the rows so far
abbrev pub invariant-loop-row : goal.invariant-loop-row
invariant-loop-row l = l.places ≡ rows_where (leads same_number l.leading) 0 (take l.row (level_tuples l.levels))
