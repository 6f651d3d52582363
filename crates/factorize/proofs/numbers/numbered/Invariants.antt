use Rattle.{
  column_core.proofs.cells.Common.{◌<◌, map, drop},
  row_keys.{specs.Keys.{same_tuple}, proofs.RecodeLaws.{AreNumbers}},
}
use Rattle.factorize.proofs.numbers.numbered.Given as goal

-- the labels from a level on are numbered
abbrev pub invariant-loop-level : goal.invariant-loop-level
invariant-loop-level g l = record {
  inside : l.level < l.levels;
  numbered : AreNumbers same_tuple (map (drop l.level) (g.R.KeyLevels.keys l.rows)) l.numbers.codes.items l.numbers.firsts.items;
}

abbrev pub decreases-loop-level : goal.decreases-loop-level
decreases-loop-level g l = l.level
