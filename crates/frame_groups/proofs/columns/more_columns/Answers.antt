use Rattle.{
  frame_parts.proofs.Common.{arith},
  frame_groups.proofs.ColumnLaws.{one_more_block, one_more_value, one_more_column, place_given, place_seen, place_inside},
}
use Rattle.frame_groups.proofs.columns.more_columns.Goals as goal

pub made_column-requires-clause-given : goal.made_column-requires-clause-given
made_column-requires-clause-given c = place_given _ _ _ _ c.requires.known.given (place_inside _ c.args.on.now _ c.loop-k.k _ c.requires.taken (omega arith) c.at.ensures) c.column.ensures.column

pub loop-k-preserved : goal.loop-k-preserved
loop-k-preserved c =
    let made = c.in_ok-column.ensures in
    record {
      blocks = one_more_block _ _ _ _ _ _ c.into_block.ensures c.in_ok-push.ensures.ok made.rows made.given c.loop-k.invariant.blocks;
      columns = one_more_column _ c.args.places.now _ _ _ _ _ _ (omega arith) c.at.ensures (place_seen _ _ _ c.args.on.now _ _ _ c.column.ensures.column made.column) (one_more_value _ _ _ _ _ c.into_block.ensures c.in_ok-push.ensures.ok) c.loop-k.invariant.columns;
    }
