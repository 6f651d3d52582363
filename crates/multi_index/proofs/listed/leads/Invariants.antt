use Rattle.index_core.{proofs.cells.Common.{◌≡◌, drop}, specs.{pick.Leading.{leads}, Labels.{same_number}}}
use Rattle.multi_index.specs.Levels.{row_tuple}
use Rattle.multi_index.proofs.listed.leads.Given as goal

-- they lead where those from a level on do
abbrev pub invariant-loop-level : goal.invariant-loop-level
invariant-loop-level l = leads same_number (drop l.level l.leading) (drop l.level (row_tuple l.levels l.row)) ≡ leads same_number l.leading (row_tuple l.levels l.row)
