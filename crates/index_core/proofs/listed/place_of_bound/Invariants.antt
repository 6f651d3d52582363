use Rattle.{
  meaning_pick.proofs.cells.Common.{◌<◌, length, IfSome, is_eq},
  index_core.{specs.Labels.{order_in}, proofs.BoundLaws.{IsSoFar}},
}
use Rattle.index_core.proofs.listed.place_of_bound.Given as goal

-- the place so far, if there is one
abbrev pub invariant-loop-place : goal.invariant-loop-place
invariant-loop-place l = record {
  so_far : IsSoFar (λ label. is_eq (order_in l.dict label l.bound)) l.labels l.found l.place;
  inside : IfSome l.found (λ place. place < length l.labels);
}
