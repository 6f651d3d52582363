use Rattle.{
  frame_parts.proofs.Common.{object_settled},
  frame_select.proofs.CutLaws.{own_name, own_labels},
}
use Rattle.frame_select.proofs.new_objects.copied.Goals as goal

pub headed_by-requires-clause-name : goal.headed_by-requires-clause-name
headed_by-requires-clause-name c =
    own_name _ c.read-source.result _ c.in_ok-headings.ensures (search object_settled)

pub headed_by-requires-clause-labels : goal.headed_by-requires-clause-labels
headed_by-requires-clause-labels c =
    own_labels _ c.read-source.result _ c.in_ok-headings.ensures (search object_settled)
