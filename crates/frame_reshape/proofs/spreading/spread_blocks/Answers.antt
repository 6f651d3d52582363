use Rattle.{
  frame_parts.proofs.Common.{◌∙◌, ap, length, CellColumn, single_on},
  reshape.specs.Answers.{spread_value},
  frame_reshape.proofs.{SpreadLoops.{one_more_column}, SpreadTableLaws.{places_inside}},
}
use Rattle.frame_reshape.proofs.spreading.spread_blocks.Goals as goal

pub take-requires : goal.take-requires
take-requires c = rw (c.cells.view_is, c.in_ok-places.ensures) (places_inside (length c.args.cells.now.cells) c.requires.0 (spread_value c.args.spread.now) c.loop-column.column c.requires.1)

pub loop-column-preserved : goal.loop-column-preserved
loop-column-preserved c = record {
  columns = one_more_column (spread_value c.args.spread.now) c.args.cells.now _ c.loop-column.column _ _ _ _ c.in_ok-places.ensures (c.in_ok-made.ensures.kind ∙ ap (λ (v : CellColumn). v.kind) c.cells.view_is) (rw c.cells.view_is at c.in_ok-made.ensures.cells) c.into_block.ensures c.in_ok-push.ensures.ok
      c.loop-column.invariant.columns;
  single = single_on _ _ _ _ c.loop-column.invariant.single c.into_block.ensures c.in_ok-push.ensures.ok;
}
