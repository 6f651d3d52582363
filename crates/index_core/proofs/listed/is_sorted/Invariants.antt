use Rattle.{
  meaning_pick.{proofs.cells.Common.{◌≡◌, ◌-◌, drop}, specs.Slices.{is_in_order}},
  index_core.specs.Labels.{order_in},
}
use Rattle.index_core.proofs.listed.is_sorted.Given as goal

-- all are in order where those from the last place on are
abbrev pub invariant-loop-place : goal.invariant-loop-place
invariant-loop-place l = is_in_order (order_in l.dict) (drop (l.place - 1) l.labels) ≡ is_in_order (order_in l.dict) l.labels
