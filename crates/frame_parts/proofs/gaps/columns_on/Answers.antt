use Rattle.{
  frame_parts.proofs.{Common.{◌<◌, length, arith, block_on, single_on}, GapLaws.{one_more_on}},
  std.proofs.Common.{take_all},
}
use Rattle.frame_parts.proofs.gaps.columns_on.Goals as goal

pub take-requires : goal.take-requires
take-requires = grind arith

pub loop-place-preserved : goal.loop-place-preserved
loop-place-preserved c =
    let lt : c.loop-place.place < length c.args.on.now.columns = omega arith in
    record {
      columns = one_more_on _ _ _ _ _ _ lt c.loop-place.invariant.columns c.in_ok-push.ensures.ok (block_on _ _ _ _ _ c.into_block.ensures c.in_ok-column.ensures.kind c.in_ok-column.ensures.cells c.column.ensures.column);
      single = single_on _ _ _ _ c.loop-place.invariant.single c.into_block.ensures c.in_ok-push.ensures.ok;
    }

pub returns-clause-columns : goal.returns-clause-columns
returns-clause-columns = grind (arith, take_all)

pub returns-clause-single : goal.returns-clause-single
returns-clause-single c = search
