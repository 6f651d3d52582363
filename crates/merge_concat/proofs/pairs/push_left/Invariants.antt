use Rattle.{
  column_core.proofs.cells.Common.{map, Some, take},
  meaning_join.specs.Pairs.{pair},
  merge_concat.specs.Pairs.{HasMore},
}
use Rattle.merge_concat.proofs.pairs.push_left.Given as goal

abbrev pub invariant-loop-right : goal.invariant-loop-right
invariant-loop-right l = HasMore l.fn.out l.out (map (λ r. pair l.left (Some r)) (take l.right-index l.rights))
