use Rattle.{
  column_core.proofs.cells.Common.{err_from_is_err_and},
  row_keys.specs.Keys.{same_tuple},
  asof_merge.proofs.{KeyLaws.{made_ascending}, GroupLaws.{as_many}, MergeLaws.{left_refused, right_refused, ungrouped_answered}},
}
use Rattle.asof_merge.proofs.pairs.asof_rows_ungrouped.Goals as goal

pub returns-in_err-lefts : goal.returns-in_err-lefts
returns-in_err-lefts g c =
    let p = err_from_is_err_and c.from_residual.result c.from_residual.ensures.1 in
    rw (p.1, p.2) (left_refused same_tuple c.args.direction c.args.tolerance _ _ _ _ (as_many _) (as_many _) c.in_err-lefts.field-0.0 c.in_err-lefts.ensures.err)

pub returns-in_err-rights : goal.returns-in_err-rights
returns-in_err-rights g c =
    let p = err_from_is_err_and c.from_residual-in_err-rights.result c.from_residual-in_err-rights.ensures.1 in
    rw (p.1, p.2) (right_refused same_tuple c.args.direction c.args.tolerance _ _ _ _ (as_many _) (as_many _) c.in_ok-lefts.lefts.items c.in_ok-lefts.ensures.ok c.in_err-rights.field-0.0 c.in_err-rights.ensures.err)

pub rows_of_one_group-requires-clause-left : goal.rows_of_one_group-requires-clause-left
rows_of_one_group-requires-clause-left g c = made_ascending _ _ _ c.in_ok-lefts.ensures.ok c.deref.ensures.value

pub rows_of_one_group-requires-clause-right : goal.rows_of_one_group-requires-clause-right
rows_of_one_group-requires-clause-right g c = made_ascending _ _ _ c.in_ok-rights.ensures.ok c.deref-2.ensures.value

pub returns : goal.returns
returns g c = ungrouped_answered c.args.direction c.args.tolerance _ _ _ c.in_ok-lefts.ensures.ok _ c.in_ok-rights.ensures.ok _ _ c.deref.ensures.value c.deref-2.ensures.value _ c.in_ok-rows.ensures
