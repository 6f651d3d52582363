use Rattle.{
  frame_parts.proofs.Common.{arith, subst, IsWhole},
  frame_set.proofs.GrowLaws.{row_is_whole},
}
use Rattle.frame_set.proofs.growing.with_row.Goals as goal

pub new-requires-clause-whole : goal.new-requires-clause-whole
new-requires-clause-whole c =
    subst IsWhole (grind arith) (row_is_whole _ c.args.label c.requires.table.known.whole)
