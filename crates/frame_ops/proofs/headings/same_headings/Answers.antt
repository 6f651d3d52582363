use Rattle.{
  frame_parts.proofs.Common.{headings_part},
  frame_select.proofs.PlaceLaws.{heading_settled},
}
use Rattle.frame_ops.proofs.headings.same_headings.Goals as goal

pub same_heading-requires-clause-a : goal.same_heading-requires-clause-a
same_heading-requires-clause-a c = search (heading_settled, headings_part)

pub same_heading-requires-clause-b : goal.same_heading-requires-clause-b
same_heading-requires-clause-b c = search (heading_settled, headings_part)
