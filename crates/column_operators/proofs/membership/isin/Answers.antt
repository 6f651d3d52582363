use Rattle.{
  column_core.{proofs.cells.Common.{◌∙◌, ap, sym, refl, Some, list_any}, specs.{Columns.{number_cell, truth_cell, text_cell}, Views.{borrowed_column}}},
  column_operators.{specs.Marks.{same_number}, proofs.MarkLaws.{if_mapped}},
}
use Rattle.column_operators.proofs.membership.isin.Goals as goal

pub returns-in-Ints : goal.returns-in-Ints
returns-in-Ints c =
    if_mapped _ _ _ _ truth_cell _ (λ x. Some (list_any (same_number (number_cell x)) c.args.values.now.keys)) _ _ _
    (λ x. refl) (ap borrowed_column (sym c.in-Ints.is) ∙ c.a.view_is) c.listed_numbers.ensures

pub returns-in-Truths : goal.returns-in-Truths
returns-in-Truths c =
    if_mapped _ _ _ _ truth_cell _ (λ x. Some (list_any (same_number (truth_cell x)) c.args.values.now.keys)) _ _ _
    (λ x. refl) (ap borrowed_column (sym c.in-Truths.is) ∙ c.a.view_is) c.listed_truths.ensures

pub returns-in-Texts : goal.returns-in-Texts
returns-in-Texts c =
    if_mapped _ _ _ _ truth_cell _ (λ x. Some (list_any (same_number (text_cell x)) c.args.values.now.keys)) _ _ _
    (λ x. refl) (ap borrowed_column (sym c.in-Texts.is) ∙ c.a.view_is) c.listed_texts.ensures
