use Rattle.{
  frame_parts.proofs.Common.{arith, take_all},
  frame_reshape.proofs.GroupCells.{more_firsts, gap_inside},
}
use Rattle.frame_reshape.proofs.grouping.first_rows.Goals as goal

pub push_first-requires : goal.push_first-requires
push_first-requires c = gap_inside _ _ _ _ c.requires c.at.ensures

pub loop-k-preserved : goal.loop-k-preserved
loop-k-preserved c = more_firsts c.args.firsts.now c.args.groups.now c.loop-k.k _ _ _ c.at.ensures c.loop-k.invariant c.in_ok-push_first.ensures

pub returns : goal.returns
returns = grind (arith, take_all)
