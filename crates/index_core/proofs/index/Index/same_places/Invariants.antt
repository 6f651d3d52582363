use Rattle.meaning_pick.proofs.cells.Common.{◌≡◌, ◌<◌, ℕ, slice_get}
use Rattle.index_core.proofs.index.Index.same_places.Given as goal

abbrev pub invariant-loop-place : goal.invariant-loop-place
invariant-loop-place l = (k : ℕ) → k < l.place → slice_get l.self k ≡ slice_get l.other k
