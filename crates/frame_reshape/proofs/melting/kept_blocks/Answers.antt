use Rattle.{frame_parts.proofs.Common.{length}, frame_select.proofs.TakeLaws.{one_more_single}, frame_reshape.{specs.Melts.{kept_column}, proofs.MeltCells.{one_more_column}}}
use Rattle.frame_reshape.proofs.melting.kept_blocks.Goals as goal

pub loop-k-preserved : goal.loop-k-preserved
loop-k-preserved c = record {
  columns = one_more_column (kept_column c.args.on.now (length c.args.m.now.values)) c.args.m.now.kept _ _ _ _ _ _ c.at.ensures (cc (c.in_ok-column.ensures.column)) c.into_block.ensures c.in_ok-push.ensures.ok c.loop-k.invariant.columns;
  single = one_more_single _ _ _ _ c.into_block.ensures c.in_ok-push.ensures.ok c.loop-k.invariant.single;
}
