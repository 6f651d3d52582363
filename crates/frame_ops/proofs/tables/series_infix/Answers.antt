use Rattle.{
  frame_parts.proofs.Common.{headings_part},
  frame_select.proofs.PlaceLaws.{heading_settled},
}
use Rattle.frame_ops.proofs.tables.series_infix.Goals as goal

pub common_name-name-requires-clause-a : goal.common_name-name-requires-clause-a
common_name-name-requires-clause-a c = search (heading_settled, headings_part)

pub common_name-name-requires-clause-b : goal.common_name-name-requires-clause-b
common_name-name-requires-clause-b c = search (heading_settled, headings_part)
