use Rattle.{
  frame_parts.proofs.Common.{length-map, length-range_with_len, arith, settled_later},
  column_core.proofs.cells.Common.{length-append},
  frame_labels.proofs.ResetLaws.{columns_are, levels_count, levels_within},
}
use Rattle.frame_labels.proofs.resetting.reset_levels.Goals as goal

pub reset_frame-requires-clause-columns : goal.reset_frame-requires-clause-columns
reset_frame-requires-clause-columns c =
    columns_are _ c.args.on.now c.in_ok-first.first (search settled_later)
    c.in_ok-first.ensures.single (rw c.axis.ensures at c.in_ok-first.ensures.columns)

pub reset_frame-requires-clause-count : goal.reset_frame-requires-clause-count
reset_frame-requires-clause-count c =
    grind (arith, levels_count c.args.on.now c.in_ok-first.first (rw c.axis.ensures at c.in_ok-first.ensures.columns), length-map, length-range_with_len, length-append)

pub returns-clause-within : goal.returns-clause-within
returns-clause-within c =
    levels_within c.args.on.now c.in_ok-first.first _ c.in_ok-first.ensures.single (rw c.axis.ensures at c.in_ok-first.ensures.columns) c.reset_frame.ensures.first
