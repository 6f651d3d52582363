use Rattle.{
  column_core.proofs.cells.Common.{◌∙◌, ◌<◌, [], length, map, arith, length-map, err_from_is_err_and},
  index_core.proofs.pick.RowLaws.{when_so, when_not},
  indexers.{specs.{Masks.{is_true}, Picks.{as_it_is}}, proofs.{AnswerLaws.{handed_on}, MaskLaws.{cell_here}, TurnLaws.{mask_more, mask_refused}, masks.kept_by_label.Goals.{then-branch+in_ok-push, else-branch}}},
}
use Rattle.indexers.proofs.masks.kept_by_label.Goals as goal

pub returns-in_err-keeps : goal.returns-in_err-keeps
returns-in_err-keeps c =
    let mask = map is_true _ in
    let labels = c.args.mask_axis.now.tuples in
    let axis = c.args.axis.now.tuples in
    let lt : c.loop-row.row < length axis = omega arith in
    let p = err_from_is_err_and c.from_residual-in_err-keeps.result c.from_residual-in_err-keeps.ensures.1 in
    rw (p.1, p.2) (handed_on as_it_is as_it_is _ _ _
    (λ f is. mask_refused _ labels mask axis c.loop-row.rows _ [] f _ lt (cell_here c.in_ok-labels.labels labels axis mask _ _ c.in_ok-labels.ensures c.requires.alike lt c.label.ensures ∙ is) c.loop-row.invariant)
    c.in_err-keeps.ensures)

pub loop-row-preserved : goal.loop-row-preserved
loop-row-preserved c =
    let mask = map is_true _ in
    let labels = c.args.mask_axis.now.tuples in
    let axis = c.args.axis.now.tuples in
    let lt : c.loop-row.row < length axis = omega arith in
    let cell = cell_here c.in_ok-labels.labels labels axis mask _ _ c.in_ok-labels.ensures c.requires.alike lt c.label.ensures ∙ c.in_ok-keeps.ensures in
    elim c.if-branch.branch [
      | then-branch+in_ok-push w ↦ mask_more _ labels mask axis c.loop-row.rows _ c.loop-row.row [] _ _ lt cell
          (grind (arith, when_so)) c.loop-row.invariant
      | else-branch w ↦ mask_more _ labels mask axis c.loop-row.rows _ c.loop-row.row [] _ _ lt cell
          (search when_not) c.loop-row.invariant
    ]

pub keeps-requires : goal.keeps-requires
keeps-requires = grind (arith, length-map)
