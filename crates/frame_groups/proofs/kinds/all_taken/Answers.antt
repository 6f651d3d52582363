use Rattle.{
  frame_parts.proofs.Common.{add-one, rules, arith},
  frame_labels.proofs.Lists.{drop_next},
}
use Rattle.frame_groups.proofs.kinds.all_taken.Goals as goal

pub loop-k-preserved : goal.loop-k-preserved
loop-k-preserved = search (rules, add-one, drop_next)

pub returns-then-not-takes : goal.returns-then-not-takes
returns-then-not-takes = grind (arith, drop_next)
