use Rattle.{column_core.proofs.cells.Common.{◌∙◌, length-map-range_with_len, err_from_is_err_and}, row_keys.specs.Keys.{same_tuple}, asof_merge.{proofs.{KeyLaws.{made_ascending, made_counted}, MergeLaws.{left_refused, right_refused, rows_answered}}}}
use Rattle.asof_merge.proofs.pairs.asof_rows.Goals as goal

pub returns-in_err-lefts : goal.returns-in_err-lefts
returns-in_err-lefts g c =
    let lefts = length-map-range_with_len (g.S.Source.row_of c.args.left.now) 0 (g.S.Source.count_of c.args.left.now) ∙ c.requires.left in
    let rights = length-map-range_with_len (g.T.Source.row_of c.args.right.now) 0 (g.T.Source.count_of c.args.right.now) ∙ c.requires.right in
    let p = err_from_is_err_and c.from_residual.result c.from_residual.ensures.1 in
    rw (p.1, p.2) (left_refused same_tuple c.args.direction c.args.tolerance _ _ _ _ lefts rights c.in_err-lefts.field-0.0 c.in_err-lefts.ensures.err)

pub returns-in_err-rights : goal.returns-in_err-rights
returns-in_err-rights g c =
    let lefts = length-map-range_with_len (g.S.Source.row_of c.args.left.now) 0 (g.S.Source.count_of c.args.left.now) ∙ c.requires.left in
    let rights = length-map-range_with_len (g.T.Source.row_of c.args.right.now) 0 (g.T.Source.count_of c.args.right.now) ∙ c.requires.right in
    let p = err_from_is_err_and c.from_residual-in_err-rights.result c.from_residual-in_err-rights.ensures.1 in
    rw (p.1, p.2) (right_refused same_tuple c.args.direction c.args.tolerance _ _ _ _ lefts rights c.in_ok-lefts.lefts.items c.in_ok-lefts.ensures.ok c.in_err-rights.field-0.0 c.in_err-rights.ensures.err)

pub rows_by_tuple-requires-clause-left : goal.rows_by_tuple-requires-clause-left
rows_by_tuple-requires-clause-left g c = made_ascending _ _ _ c.in_ok-lefts.ensures.ok c.deref.ensures.value

pub rows_by_tuple-requires-clause-right : goal.rows_by_tuple-requires-clause-right
rows_by_tuple-requires-clause-right g c = made_ascending _ _ _ c.in_ok-rights.ensures.ok c.deref-2.ensures.value

pub rows_by_tuple-requires-clause-left_by : goal.rows_by_tuple-requires-clause-left_by
rows_by_tuple-requires-clause-left_by g c = made_counted _ _ _ _ c.in_ok-lefts.ensures.ok c.deref.ensures.value ∙ c.requires.left

pub rows_by_tuple-requires-clause-right_by : goal.rows_by_tuple-requires-clause-right_by
rows_by_tuple-requires-clause-right_by g c = made_counted _ _ _ _ c.in_ok-rights.ensures.ok c.deref-2.ensures.value ∙ c.requires.right

pub returns : goal.returns
returns g c =
    let lefts = length-map-range_with_len (g.S.Source.row_of c.args.left.now) 0 (g.S.Source.count_of c.args.left.now) ∙ c.requires.left in
    let rights = length-map-range_with_len (g.T.Source.row_of c.args.right.now) 0 (g.T.Source.count_of c.args.right.now) ∙ c.requires.right in
    rows_answered same_tuple c.args.direction c.args.tolerance _ _ _ _ lefts rights _ c.in_ok-lefts.ensures.ok _ c.in_ok-rights.ensures.ok _ _ c.deref.ensures.value c.deref-2.ensures.value
    c.in_ok-rows.rows c.in_ok-rows.ensures
