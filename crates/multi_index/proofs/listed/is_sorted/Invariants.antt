use Rattle.index_core.{proofs.cells.Common.{◌≡◌, ◌-◌, drop}, specs.{pick.{Leading.{leading_cmp}, Slices.{is_in_order}}, Labels.{order_in}}}
use Rattle.multi_index.specs.Levels.{level_tuples}
use Rattle.multi_index.proofs.listed.is_sorted.Given as goal

-- all are in order where those from the last row on are
abbrev pub invariant-loop-row : goal.invariant-loop-row
invariant-loop-row l = is_in_order (leading_cmp (order_in l.dict)) (drop (l.row - 1) (level_tuples l.levels)) ≡ is_in_order (leading_cmp (order_in l.dict)) (level_tuples l.levels)
