use Rattle.{
  multi_index.proofs.cells.Common.{◌≡◌, take, distinct},
  row_keys.proofs.RecodeLaws.{AreNumbers},
}
use Rattle.row_keys.proofs.factor.factorize.Given as goal

-- what the rows so far have
abbrev pub invariant-loop-row : goal.invariant-loop-row
invariant-loop-row g l = record {
  seen : l.seen.keys ≡ distinct g.K.PartialEq.eq (take l.row (g.R.KeyRows.keys l.rows));
  numbers : AreNumbers g.K.PartialEq.eq (take l.row (g.R.KeyRows.keys l.rows)) l.codes.items l.firsts.items;
}
