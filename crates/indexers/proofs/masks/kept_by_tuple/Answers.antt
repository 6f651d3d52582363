use Rattle.{
  column_core.proofs.cells.Common.{◌≡◌, ◌∙◌, ◌<◌, [], ap, sym, length, map, slice_index_or, arith, get_or-map, length-map, All-append, err_from_is_err_and},
  index_core.{specs.pick.{Masks.{cell_or_fault}, Rows.{only_row}}, proofs.pick.{RowLaws.{when_so, when_not}, InsideLaws.{rows_inside}}},
  indexers.{specs.{Masks.{is_true}, Picks.{as_it_is}}, proofs.{AnswerLaws.{handed_on, row_found}, TurnLaws.{added_to_none, mask_more, mask_refused}, masks.kept_by_tuple.Goals.{then-branch+in_ok-push, else-branch}}},
}
use Rattle.indexers.proofs.masks.kept_by_tuple.Goals as goal

pub returns-in_err-keeps_at : goal.returns-in_err-keeps_at
returns-in_err-keeps_at c =
    let mask = map is_true _ in
    let labels = c.args.mask_axis.now.tuples in
    let axis = c.args.axis.now.tuples in
    let lt : c.loop-row.row < length axis = omega arith in
    let p = err_from_is_err_and c.from_residual-in_err-keeps_at.result c.from_residual-in_err-keeps_at.ensures.1 in
    rw (p.1, p.2) (handed_on as_it_is as_it_is _ _ _
    (λ f is. mask_refused _ labels mask axis c.loop-row.rows _ [] f _ lt ((ap (λ l. cell_or_fault (slice_index_or axis c.loop-row.row []) mask (only_row l)) (sym (row_found _ _ _ _ _ lt c.rows.ensures c.in_ok-found.ensures))) ∙ is) c.loop-row.invariant)
    c.in_err-keeps_at.ensures)

pub loop-row-preserved : goal.loop-row-preserved
loop-row-preserved c =
    let mask = map is_true _ in
    let labels = c.args.mask_axis.now.tuples in
    let axis = c.args.axis.now.tuples in
    let lt : c.loop-row.row < length axis = omega arith in
    let cell = (ap (λ l. cell_or_fault (slice_index_or axis c.loop-row.row []) mask (only_row l)) (sym (row_found _ _ _ _ _ lt c.rows.ensures c.in_ok-found.ensures))) ∙ c.in_ok-keeps_at.ensures in
    elim c.if-branch.branch [
      | then-branch+in_ok-push w ↦ mask_more _ labels mask axis c.loop-row.rows _ c.loop-row.row [] _ _ lt cell
          (grind (arith, when_so)) c.loop-row.invariant
      | else-branch w ↦ mask_more _ labels mask axis c.loop-row.rows _ c.loop-row.row [] _ _ lt cell
          (search when_not) c.loop-row.invariant
    ]

pub find_partners-requires-clause-alike : goal.find_partners-requires-clause-alike
find_partners-requires-clause-alike c =
    All-append (λ t. length t ≡ c.levels.result) c.args.axis.now.tuples c.args.mask_axis.now.tuples c.levels.ensures.alike (grind arith)

pub rows-requires : goal.rows-requires
rows-requires = grind (arith, length-map)

pub keeps_at-requires-clause-found : goal.keeps_at-requires-clause-found
keeps_at-requires-clause-found = grind (arith, get_or-map, rows_inside)

pub loop-row-init : goal.loop-row-init
loop-row-init c = search added_to_none
