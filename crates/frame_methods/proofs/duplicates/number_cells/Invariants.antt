use Rattle.frame_methods.proofs.DuplicateLaws.{AreNumbered}
use Rattle.frame_methods.proofs.duplicates.number_cells.Given as goal

-- the rows so far have their new numbers
abbrev pub invariant-loop-row : goal.invariant-loop-row
invariant-loop-row l = AreNumbered l.initial.numbers l.column.cells l.row l.numbers l.seen.keys
