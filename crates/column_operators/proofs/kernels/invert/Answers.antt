use Rattle.{
  column_core.{proofs.{cells.Common.{ap, sym, subst, ◌∙◌}, CellRows.{same_column}}, specs.{cells.Operator.{invert_column}, Columns.{CellColumn, column_value, truth_cell}, Views.{borrowed_column}}},
  nullable_array.specs.Answers.{Answers},
}
use Rattle.column_operators.proofs.kernels.invert.Goals as goal

pub returns-in-Some : goal.returns-in-Some
returns-in-Some c = λ texts.
    subst (λ (col : CellColumn). Answers texts c.inverted.result (invert_column (column_value texts col)))
    (same_column _ truth_cell _ _ _ _ c.in-Some.ensures.count c.in-Some.ensures.rows ∙ ap borrowed_column (sym c.in-Truths.is) ∙ c.a.view_is) (c.inverted.ensures texts)
