use Rattle.{
  meaning_pick.proofs.cells.Common.{◌≡◌, take},
  index_core.specs.Labels.{labels_at},
}
use Rattle.index_core.proofs.index.Index.take.Given as goal

abbrev pub invariant-loop-place : goal.invariant-loop-place
invariant-loop-place l = l.taken.items ≡ labels_at l.self (take l.place-index l.place-items)
