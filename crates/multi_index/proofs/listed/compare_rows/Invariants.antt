use Rattle.index_core.{proofs.cells.Common.{◌≡◌, drop}, specs.{pick.Leading.{leading_cmp}, Labels.{order_in}}}
use Rattle.multi_index.specs.Levels.{row_tuple}
use Rattle.multi_index.proofs.listed.compare_rows.Given as goal

-- the labels so far tie
abbrev pub invariant-loop-level : goal.invariant-loop-level
invariant-loop-level l = leading_cmp (order_in l.dict) (drop l.level (row_tuple l.levels l.row)) (drop l.level (row_tuple l.levels l.other)) ≡ leading_cmp (order_in l.dict) (row_tuple l.levels l.row) (row_tuple l.levels l.other)
