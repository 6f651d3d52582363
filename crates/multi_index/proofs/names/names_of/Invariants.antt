use Rattle.index_core.proofs.cells.Common.{◌≡◌, None, length, map, take, slice_index_or}
use Rattle.multi_index.proofs.names.names_of.Given as goal

-- there is room for four names, and the first ones are those of the levels so far
abbrev pub invariant-loop-k : goal.invariant-loop-k
invariant-loop-k l = record {
  room : length l.names ≡ 4;
  so_far : take l.k l.names ≡ map (λ level. slice_index_or l.axis.names level None) (take l.k l.order);
}
