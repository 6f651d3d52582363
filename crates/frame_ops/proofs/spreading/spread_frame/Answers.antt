use Rattle.{
  frame_parts.proofs.Common.{arith, subst, IsWhole, IsKnownTable},
  frame_ops.proofs.WideLaws.{spread_known},
}
use Rattle.frame_ops.proofs.spreading.spread_frame.Goals as goal

pub new-requires-clause-whole : goal.new-requires-clause-whole
new-requires-clause-whole c =
    subst IsWhole
    (grind arith)
    (spread_known _ _ c.args.series.now c.requires.known_frame c.requires.known_series c.requires.frame c.requires.series c.requires.level).whole

pub returns-clause-known : goal.returns-clause-known
returns-clause-known c =
    subst (IsKnownTable c.args.dict.now)
    (grind arith)
    (spread_known _ _ _ c.requires.known_frame c.requires.known_series c.requires.frame c.requires.series c.requires.level)
