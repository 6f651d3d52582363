use Rattle.{
  frame_parts.proofs.Common.{arith, length-map},
  frame_ops.proofs.{MeetingLaws.{table_meant, scalar_meetings}, InfixLaws.{makes_as}},
}
use Rattle.frame_ops.proofs.tables.scalar_infix.Goals as goal

pub returns-clause-makes : goal.returns-clause-makes
returns-clause-makes c = makes_as _ _ _ _ c.table_met.ensures.makes (grind (arith, table_meant, length-map, scalar_meetings))
