use Rattle.{
  frame_parts.proofs.Common.{arith, map-append, block_on, single_on},
  frame_merge.proofs.TableLaws.{one_more_at},
}
use Rattle.frame_merge.proofs.columns.columns_met.Goals as goal

pub loop-k-preserved : goal.loop-k-preserved
loop-k-preserved c =
    record {
      single = grind (arith, single_on);
      columns = one_more_at _ _ _ _ _
          _ _ _ c.at.ensures
          (block_on _ _ _ _ _ c.into_block.ensures c.in_ok-column.ensures.kind c.in_ok-column.ensures.cells c.column.ensures.column)
          (grind (arith, map-append)) c.loop-k.invariant.columns;
    }
