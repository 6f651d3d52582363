use Rattle.{
  multi_index.proofs.cells.Common.{nat_eq, take},
  row_keys.proofs.RecodeLaws.{AreNumbers},
}
use Rattle.row_keys.proofs.numbers.codes_by_leader.Given as goal

abbrev pub invariant-loop-row : goal.invariant-loop-row
invariant-loop-row l = AreNumbers nat_eq (take l.row l.leaders) l.codes.items l.firsts.items
