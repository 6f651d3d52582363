use Rattle.{
  frame_parts.proofs.Common.{◌∙◌, ap, refl, table_value, list_in, on, cells_of, tables, table_at, world},
  frame_labels.{specs.method.Methods.{each_column}, proofs.AnswerLaws.{forms_so}},
  frame_signatures.proofs.ScalarLaws.{items_settled},
  frame_methods.{specs.Listed.{listed_column}, proofs.{AnswerLaws.{answer_by}, ListedLaws.{isin_meant}}},
}
use Rattle.meaning_call.specs.declared.Method.TheVariants as method
use Rattle.frame_methods.proofs.column_ops.columns_answer.Goals as goal

-- cells in a list
pub listed_cells-requires : goal.listed_cells-requires
listed_cells-requires c = search items_settled

pub returns-in_ok-values-in-Isin : goal.returns-in_ok-values-in-Isin
returns-in_ok-values-in-Isin c =
    let w = world c.args.store.now c.args.dict.now in
    let t = table_value c.args.dict.now (table_at (tables c.args.store.now) c.args.on.0) in
    forms_so _ _ _ _ _ _
    (isin_meant _ _ _ _ _ t (c.list.ensures.value w.tables w.texts) (c.in_ok-values-in-Isin.ensures.same w.texts)
    ∙ answer_by w _ _ c.args.bound.now t (λ a. on (list_in (a 0)) (λ parts. each_column (listed_column (cells_of parts)) t)) (ap method.Columns c.in-Isin.is) c.requires.call.parameters refl)
    c.columns_placed-in-Isin.ensures
