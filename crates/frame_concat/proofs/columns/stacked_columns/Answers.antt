use Rattle.{
  frame_parts.proofs.Common.{arith, single_on, refl},
  frame_concat.proofs.BelowLaws.{one_more_stacked},
}
use Rattle.frame_concat.proofs.columns.stacked_columns.Goals as goal

pub loop-sought-preserved : goal.loop-sought-preserved
loop-sought-preserved c = record {
  columns = λ texts.
      one_more_stacked _ _ _ _ _ _ _ _ _ _ c.loop-sought-test.true refl
      c.in_ok-column.ensures c.into_block.ensures c.in_ok-push.ensures.ok (c.loop-sought.invariant.columns texts);
  single = grind (arith, single_on);
}
