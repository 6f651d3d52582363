use Rattle.{
  column_core.proofs.cells.Common.{Some, take, flat_map},
  merge_concat.specs.{Codes.{pairs_with}, Pairs.{HasMore}},
}
use Rattle.merge_concat.proofs.pairs.push_key.Given as goal

abbrev pub invariant-loop-left : goal.invariant-loop-left
invariant-loop-left l = HasMore l.fn.out l.out (flat_map (λ r. pairs_with l.rights (Some r)) (take l.left-index l.lefts))
