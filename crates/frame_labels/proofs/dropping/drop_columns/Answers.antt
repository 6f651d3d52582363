use Rattle.{
  frame_parts.proofs.Common.{◌∙◌, ap, sym, then_value, limited, err_from_is_err_and, object_value, tables, world},
  frame_store.specs.tables.Cost.{free},
  meaning_method.specs.{form.Select.{columns_frame}, Rows.{drop_result}},
  frame_labels.{specs.Named.{first_in}, proofs.{AnswerLaws.{forms_so}, DropLaws.{drop_kept, drop_refused}}},
}
use Rattle.frame_labels.proofs.dropping.drop_columns.Goals as goal

pub returns-in_err-kept : goal.returns-in_err-kept
returns-in_err-kept c =
    let w = world c.args.store.now c.args.dict.now in
    let t = object_value (tables c.args.store.now) c.args.dict.now c.args.on in
    let p = err_from_is_err_and c.from_residual.result c.from_residual.ensures.1 in
    rw (p.1, p.2) (drop_refused c.args.store.now c.args.dict.now t (first_in w c.args.bound.now) _ c.in_err-kept.ensures.0 c.requires.settled)

pub returns : goal.returns
returns c =
    let w = world c.args.store.now c.args.dict.now in
    let t = object_value (tables c.args.store.now) c.args.dict.now c.args.on in
    let g = first_in w c.args.bound.now in
    forms_so free _ (limited (columns_frame t c.in_ok-kept.kept)) (drop_result t g) _ _
    (sym (drop_kept t g ∙ ap (λ r. then_value r (λ kept. limited (columns_frame t kept))) c.in_ok-kept.ensures.0)) c.columns_of.ensures
