use Rattle.{
  column_core.{proofs.{cells.Common.{◌∙◌, ap, sym}, ColumnLaws.{given-row}}, specs.Views.{borrowed_column}},
  text_methods.{specs.Answers.{method_of}, proofs.MethodLaws.{answer_rows}},
}
use Rattle.text_methods.proofs.methods.text_method.Goals as goal

pub on_texts-requires : goal.on_texts-requires
on_texts-requires c = λ k lt.
    given-row _ _ _ (rw (sym (ap borrowed_column (sym c.in-Texts.is) ∙ c.a.view_is)) at c.requires) k lt

pub returns-in-Texts-clause-rows : goal.returns-in-Texts-clause-rows
returns-in-Texts-clause-rows c =
    answer_rows c.args.dict.now _ (method_of c.args.dict.now c.args.op) _ _ _ (ap borrowed_column (sym c.in-Texts.is) ∙ c.a.view_is) c.on_texts.ensures.answer
