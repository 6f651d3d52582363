use Rattle.{
  frame_parts.proofs.Common.{headings_part},
  frame_select.proofs.PlaceLaws.{heading_settled},
}
use Rattle.frame_merge.proofs.headings.label_beside.Goals as goal

pub heading_beside-requires : goal.heading_beside-requires
heading_beside-requires c = search (heading_settled, headings_part)

pub returns-in-Some-clause-given : goal.returns-in-Some-clause-given
returns-in-Some-clause-given c = search (heading_settled, headings_part)
