use Rattle.{
  column_core.proofs.cells.Common.{◌∙◌, ◌<◌, ap, sym, length, [], arith, get_or_from_slice_get},
  index_core.specs.{pick.{Labels.{rows_of_key}, Leading.{leads}}, Labels.{same_number}},
  indexers.proofs.{ListLaws.{lone_found}, TurnLaws.{label_more}},
}
use Rattle.indexers.proofs.lists.rows_of_lone_labels.Goals as goal

pub loop-k-preserved : goal.loop-k-preserved
loop-k-preserved c =
    let tuples = c.args.axis.now.tuples in
    let labels = c.args.labels.now in
    let lt : c.loop-k.k < length labels = omega arith in
    let here = get_or_from_slice_get labels c.loop-k.k c.at-label.result.now [] c.at-label.ensures in
    let one = ap length (sym here) ∙ c.requires.full c.loop-k.k [] lt in
    let found = lone_found _ tuples c.at-label.result.now c.at.result _ c.in_ok-rows.ensures one c.at.ensures (sym c.only_row.ensures ∙ c.in-Some.is) in
    label_more (leads same_number) tuples labels c.loop-k.places _ _ c.loop-k.k [] _ lt (ap (rows_of_key (leads same_number) tuples) here ∙ found) c.in_ok-push.ensures.ok c.loop-k.invariant
