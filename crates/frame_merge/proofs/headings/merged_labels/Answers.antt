use Rattle.{
  frame_labels.proofs.NamedLaws.{others_inside, others_meant, all_are},
  frame_select.proofs.PickedLaws.{places_inside},
  frame_merge.proofs.{KeyLaws.{labels_meant, labels_given}, TableLaws.{rights_inside}},
}
use Rattle.frame_merge.proofs.headings.merged_labels.Goals as goal

pub heading_set-requires-clause-places : goal.heading_set-requires-clause-places
heading_set-requires-clause-places c = others_inside _ _ _ _ c.in_ok-lefts.ensures c.columns-2.ensures

pub heading_set-requires-2-clause-places : goal.heading_set-requires-2-clause-places
heading_set-requires-2-clause-places c = search rights_inside

pub labels_beside-requires-clause-places : goal.labels_beside-requires-clause-places
labels_beside-requires-clause-places c = places_inside _ _ _ c.in_ok-all.ensures c.columns.ensures

pub labels_beside-requires-2-clause-places : goal.labels_beside-requires-2-clause-places
labels_beside-requires-2-clause-places c = search rights_inside

pub returns-clause-given : goal.returns-clause-given
returns-clause-given c =
    labels_given _ _ _ _ _ c.in_ok-own.ensures.longer c.in_ok-labels.ensures.given c.in_ok-own.ensures.given
    (cc (c.in_ok-extend_from_slice.ensures.items, c.as_slice.ensures.value))

pub returns-clause-labels : goal.returns-clause-labels
returns-clause-labels c =
    labels_meant _ _ _ _ _ _ c.len.ensures.distinct c.requires.left.given c.requires.right.given
    _ _ _ _ _ _ _ _ _
    c.in_ok-of_right.ensures c.in_ok-of_left.ensures (others_meant _ c.args.l.now _ _ _ c.in_ok-lefts.ensures c.columns-2.ensures) c.requires.rights (all_are _ c.args.l.now _ _ c.in_ok-all.ensures c.columns.ensures)
    c.in_ok-labels.ensures c.in_ok-own.ensures c.new-none.ensures
    (cc (c.in_ok-extend_from_slice.ensures.items, c.as_slice.ensures.value))
