use Rattle.index_core.proofs.cells.Common.{◌≡◌, map, take, slice_index_or, None}
use Rattle.multi_index.proofs.level.codes_at.Given as goal

-- the codes so far
abbrev pub invariant-loop-place : goal.invariant-loop-place
invariant-loop-place l = l.taken.items ≡ map (λ place. slice_index_or l.codes place None) (take l.place-index l.places)
