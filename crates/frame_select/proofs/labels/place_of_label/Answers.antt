use Rattle.{
  frame_parts.proofs.Common.{◌≡◌, ◌∙◌, sym, true},
  frame_select.proofs.HeadingLaws.{heading_settled, met_is},
}
use Rattle.frame_select.proofs.labels.place_of_label.Goals as goal

pub same_heading-requires-clause-b : goal.same_heading-requires-clause-b
same_heading-requires-clause-b c = search heading_settled

pub returns-then-same_heading-clause-met : goal.returns-then-same_heading-clause-met
returns-then-same_heading-clause-met c =
    let is_so : c.same_heading.result ≡ true = search in
    sym c.heading.ensures.value
    ∙ met_is _ _ _ _ c.len.ensures.distinct c.requires.label
    (search heading_settled) c.same_heading.ensures is_so
