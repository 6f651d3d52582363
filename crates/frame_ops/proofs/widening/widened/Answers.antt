use Rattle.{
  frame_parts.proofs.Common.{arith, subst, IsWhole},
  frame_ops.proofs.WideLaws.{widened_whole},
}
use Rattle.frame_ops.proofs.widening.widened.Goals as goal

pub new-requires-clause-whole : goal.new-requires-clause-whole
new-requires-clause-whole c =
    subst IsWhole
    (grind arith)
    (widened_whole _ c.args.other.now _ _ _ c.requires.frame c.requires.keys c.requires.places c.requires.opposites c.requires.whole)
