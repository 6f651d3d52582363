use Rattle.{
  frame_parts.proofs.Common.{arith, ◌≡◌, [], ◌∷◌, None, slice_index_or, object_settled, headings_part},
  frame_labels.proofs.AnswerLaws.{forms_so},
  frame_methods.proofs.NameLaws.{named_settled, heading_list, label_seen, one_item, frame_heading},
}
use Rattle.frame_methods.proofs.renaming.to_frame.Goals as goal

pub as_frame-requires-clause-labels : goal.as_frame-requires-clause-labels
as_frame-requires-clause-labels c =
    let source = c.read-source.result in
    let one : source.headings ≡ slice_index_or source.headings 0 None ∷ [] = grind (arith, one_item) in
    let settled = headings_part c.args.dict.now source (search object_settled) in
    grind (arith, named_settled, frame_heading, label_seen, heading_list)

pub returns : goal.returns
returns c = forms_so _ _ _ _ _ _ (grind (arith, frame_heading, label_seen, heading_list, one_item)) c.as_frame.ensures
