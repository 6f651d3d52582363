use Rattle.{
  index_core.{proofs.{cells.Common.{◌∙◌, [], ap, sym, arith}, pick.RowLaws.{rows_more_yes, rows_more_no}}, specs.{pick.Leading.{leads}, Labels.{same_number}}},
  multi_index.{specs.Levels.{level_tuples}, proofs.{LevelTuples.{count_tuples, tuple_at}, listed.places_of.Goals.{then-leads+in_ok-push, else-leads}}},
}
use Rattle.multi_index.proofs.listed.places_of.Goals as goal

pub loop-row-preserved : goal.loop-row-preserved
loop-row-preserved c =
    let tuples = level_tuples c.args.levels.now in
    let size = count_tuples c.args.levels.now in
    let read = ap (leads same_number c.args.leading.now) (tuple_at c.args.levels.now c.loop-row.row [] (omega arith)) ∙ sym c.leads.ensures in
    elim c.if-leads.branch [
      | then-leads+in_ok-push w ↦ rows_more_yes _ _ _ [] _ _ (omega (arith, size)) c.loop-row.invariant (read ∙ w.if-leads.true) (w.places-is ∙ w.in_ok-push.ensures.ok)
      | else-leads w ↦ rows_more_no _ tuples c.loop-row.row [] _ (omega (arith, size)) (w.places-is ∙ c.loop-row.invariant) (read ∙ w.if-leads.false)
    ]
