use Rattle.{
  frame_parts.proofs.Common.{refl, err_from_is_err_and, table_value, tables, cells_value},
  frame_select.specs.Reaches.{accessor_of},
  frame_set.{specs.{Grown.{grown_table}, Values.{value_in}}, proofs.{CellLaws.{fit_held, grown_settled, has_kinds, not_lacking, set_beyond, set_given, set_misfits, set_within}, FillLaws.{fit_read, kinds_read}, SetLaws.{part_refused, refused_by}}},
}
use Rattle.frame_set.proofs.assigning.cells_change.Goals as goal

pub returns-in_err-values-clause-change : goal.returns-in_err-values-clause-change
returns-in_err-values-clause-change c =
    let texts = c.args.dict.now in
    let p = err_from_is_err_and c.from_residual.result c.from_residual.ensures.1 in
    rw (p.1, p.2, not_lacking texts c.args.on.now c.args.target (accessor_of c.args.by) (value_in (tables c.args.store.now) texts c.args.value) _ c.lacks_columns.ensures c.if-lacks_columns.false)
    (part_refused cells_value _ _ _ _ c.in_err-values.ensures.values)

pub returns-in_err-expect_fit-clause-change : goal.returns-in_err-expect_fit-clause-change
returns-in_err-expect_fit-clause-change c =
    let texts = c.args.dict.now in
    let t = c.args.on.now in
    let target = c.args.target in
    let test = c.in_err-expect_fit.ensures texts (table_value texts (grown_table t target c.in_ok-kind.kind)) target.columns.places (kinds_read _ _ _ _ c.deref.ensures.value (c.in_ok-kinds.ensures.kinds _ (has_kinds _ t target _ c.requires.target.columns))) in
    let p = err_from_is_err_and c.from_residual-in_err-expect_fit.result c.from_residual-in_err-expect_fit.ensures.1 in
    rw (p.1, p.2)
    (refused_by _ _ _ _ test.1
    (set_misfits _ t _ _ _ _ _ _ c.lacks_columns.ensures c.if-lacks_columns.false c.in_ok-values.ensures.values (c.in_ok-kind.ensures texts) (fit_read texts (table_value texts (grown_table t target c.in_ok-kind.kind)) target.columns.places c.in_ok-values.values _ _ c.as_slice.ensures test.0)) (λ more. refl))

pub returns-in_err-expect_room-clause-change : goal.returns-in_err-expect_room-clause-change
returns-in_err-expect_room-clause-change c =
    let texts = c.args.dict.now in
    let t = c.args.on.now in
    let target = c.args.target in
    let p = err_from_is_err_and c.from_residual-in_err-expect_room.result c.from_residual-in_err-expect_room.ensures.1 in
    rw (p.1, p.2)
    (refused_by _ _ _ _ c.in_err-expect_room.ensures.1
    (set_beyond _ t _ _ _ _ _ _ c.lacks_columns.ensures c.if-lacks_columns.false c.in_ok-values.ensures.values (c.in_ok-kind.ensures texts)
    (fit_read texts (table_value texts (grown_table t target c.in_ok-kind.kind)) target.columns.places c.in_ok-values.values _ _ c.as_slice.ensures (c.in_ok-expect_fit.ensures texts (table_value texts (grown_table t target c.in_ok-kind.kind)) target.columns.places (kinds_read _ _ _ _ c.deref.ensures.value (c.in_ok-kinds.ensures.kinds _ (has_kinds _ t target _ c.requires.target.columns))))) c.in_err-expect_room.ensures.0) (λ more. refl))

pub filled-requires-clause-held : goal.filled-requires-clause-held
filled-requires-clause-held c = λ k lt texts.
    let t = c.args.on.now in
    fit_held _ _ _ _ k (fit_read texts (table_value texts (grown_table t c.args.target c.in_ok-kind.kind)) c.args.target.columns.places c.in_ok-values.values _ _ c.as_slice.ensures (c.in_ok-expect_fit.ensures texts (table_value texts (grown_table t c.args.target c.in_ok-kind.kind)) c.args.target.columns.places (kinds_read _ _ _ _ c.deref.ensures.value (c.in_ok-kinds.ensures.kinds _ (has_kinds _ t c.args.target _ c.requires.target.columns))))) lt

pub returns-clause-change : goal.returns-clause-change
returns-clause-change c =
    let texts = c.args.dict.now in
    let t = c.args.on.now in
    let target = c.args.target in
    rw c.in_ok-filled.ensures.made (
      set_within _ t _ _ _ _ _ _ c.lacks_columns.ensures c.if-lacks_columns.false c.in_ok-values.ensures.values (c.in_ok-kind.ensures texts)
          (fit_read texts (table_value texts (grown_table t target c.in_ok-kind.kind)) target.columns.places c.in_ok-values.values _ _ c.as_slice.ensures (c.in_ok-expect_fit.ensures texts (table_value texts (grown_table t target c.in_ok-kind.kind)) target.columns.places (kinds_read _ _ _ _ c.deref.ensures.value (c.in_ok-kinds.ensures.kinds _ (has_kinds _ t target _ c.requires.target.columns))))) c.in_ok-expect_room.ensures,
      set_given _ _ _ _ _ (grown_settled _ t target _ c.requires.table.known.given c.requires.given) c.in_ok-values.ensures.given,
    )
