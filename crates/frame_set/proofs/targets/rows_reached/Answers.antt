use Rattle.{
  frame_parts.proofs.Common.{arith, length-map},
  frame_set.proofs.TargetLaws.{row_settled, rows_tell},
}
use Rattle.frame_set.proofs.targets.rows_reached.Goals as goal

pub returns-clause-rows : goal.returns-clause-rows
returns-clause-rows = grind (arith, length-map, rows_tell)

pub returns-clause-given : goal.returns-clause-given
returns-clause-given c =
    c.picked_or_added.ensures.given _ (row_settled _ _ _ _ _ _ c.row_to_add.ensures.label c.requires.table.known.given c.requires.key.given)
