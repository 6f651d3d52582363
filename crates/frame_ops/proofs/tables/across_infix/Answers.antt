use Rattle.{
  frame_parts.proofs.Common.{arith},
  frame_ops.proofs.InfixLaws.{makes_as, across_is_meant, across_opposite, series_given},
}
use Rattle.frame_ops.proofs.tables.across_infix.Goals as goal

pub table_met-requires-clause-opposite : goal.table_met-requires-clause-opposite
table_met-requires-clause-opposite c = across_opposite c.args.dict.now _ _ c.args.left c.requires.known_frame.whole c.requires.known_series.whole c.requires.series (grind arith)

pub table_met-requires-clause-other : goal.table_met-requires-clause-other
table_met-requires-clause-other c = search series_given

pub returns-clause-makes : goal.returns-clause-makes
returns-clause-makes c =
    makes_as _ _ _ _ c.table_met.ensures.makes
    (across_is_meant c.args.dict.now c.args.frame.now c.args.series _ c.requires.known_frame.whole c.requires.known_series.whole c.requires.series (grind arith) _)
