use Rattle.{
  column_core.proofs.cells.Common.{◌∙◌, ◌<◌, ap, sym, length, [], arith, get_or_from_slice_get},
  index_core.specs.{pick.{Faults.{not_there}, Labels.{rows_of_key}, Leading.{leads}}, Labels.{same_number}},
  indexers.proofs.{AnswerLaws.{label_found, label_missing}, TurnLaws.{label_more, label_refused}},
}
use Rattle.indexers.proofs.lists.rows_of_labels.Goals as goal

pub returns-then-not-branch : goal.returns-then-not-branch
returns-then-not-branch c =
    let lt : c.loop-k.k < length c.args.labels.now = omega arith in
    let here = get_or_from_slice_get c.args.labels.now c.loop-k.k _ [] c.at-label.ensures in
    grind (arith, label_refused (leads same_number) c.args.axis.now.tuples c.args.labels.now c.loop-k.places c.loop-k.k [] (not_there c.at-label.result.now) _ lt (ap (rows_of_key (leads same_number) c.args.axis.now.tuples) here ∙ (label_missing c.in_ok-rows.rows c.args.axis.now.tuples c.at-label.result.now c.at.result c.in_ok-rows.ensures (ap length (sym here) ∙ c.requires.full c.loop-k.k [] lt) c.at.ensures (sym c.in_ok-push_rows.ensures.some ∙ c.if-not-branch.true))) c.loop-k.invariant, c.copy.ensures)

pub loop-k-preserved : goal.loop-k-preserved
loop-k-preserved c =
    let lt : c.loop-k.k < length c.args.labels.now = omega arith in
    let here = get_or_from_slice_get c.args.labels.now c.loop-k.k c.at-label.result.now [] c.at-label.ensures in
    let one = ap length (sym here) ∙ c.requires.full c.loop-k.k [] lt in
    let found = label_found _ _ _ _ c.in_ok-rows.ensures one c.at.ensures (sym c.in_ok-push_rows.ensures.some ∙ c.if-not-branch.false) in
    label_more (leads same_number) _ c.args.labels.now c.loop-k.places c.push_rows.new.rows _ c.loop-k.k [] _ lt (cc) c.in_ok-push_rows.ensures.rows c.loop-k.invariant
