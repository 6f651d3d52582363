use Rattle.{
  column_core.{proofs.cells.Common.{arith, ◌∙◌, ap, sym}, specs.{Columns.{number_cell, truth_cell, text_cell}, Views.{borrowed_column}}},
  column_operators.{specs.Marks.{filled_value}, proofs.MarkLaws.{if_kept}},
}
use Rattle.column_operators.proofs.missing.fillna.Goals as goal

pub returns-in-Ints : goal.returns-in-Ints
returns-in-Ints c =
    if_kept _ _ number_cell _ (filled_value c.number_in.result) _ _ _
    (grind arith) (ap borrowed_column (sym c.in-Ints.is) ∙ c.a.view_is) c.fill_lane.ensures

pub returns-in-Truths : goal.returns-in-Truths
returns-in-Truths c =
    if_kept _ _ truth_cell _ (filled_value c.truth_in.result) _ _ _
    (grind arith) (ap borrowed_column (sym c.in-Truths.is) ∙ c.a.view_is) c.fill_lane-in-Truths.ensures

pub returns-in-Texts : goal.returns-in-Texts
returns-in-Texts c =
    if_kept _ _ text_cell _ (filled_value c.text_in.result) _ _ _
    (grind arith) (ap borrowed_column (sym c.in-Texts.is) ∙ c.a.view_is) c.fill_lane-in-Texts.ensures
