use Rattle.{
  index_core.proofs.cells.Common.{◌≡◌, None, take},
  multi_index.proofs.AddedLaws.{four_with},
}
use Rattle.multi_index.proofs.names.names_with.Given as goal

-- the names so far stand there, and none in all other places
abbrev pub invariant-loop-level : goal.invariant-loop-level
invariant-loop-level l = l.names ≡ four_with l.outer None (take l.level l.axis.names)
