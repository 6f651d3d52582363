use Rattle.{
  column_core.{proofs.cells.Common.{ap, sym, ◌∙◌}, specs.Views.{borrowed_column}},
  nullable_array.proofs.{DistinctLaws.{if_ok_same, numbers_distinct, texts_distinct}, TruthLaws.{truths_distinct}},
}
use Rattle.nullable_array.proofs.distinct_cells.distinct.Goals as goal

pub returns-in-Ints : goal.returns-in-Ints
returns-in-Ints c = λ texts apart given. if_ok_same _ _ _ c.distinct_numbers.ensures (numbers_distinct _ _ _ _ (ap borrowed_column (sym c.in-Ints.is) ∙ c.a.view_is))

pub returns-in-Truths : goal.returns-in-Truths
returns-in-Truths c = λ texts apart given. c.distinct_truths.ensures ∙ truths_distinct _ _ _ _ (ap borrowed_column (sym c.in-Truths.is) ∙ c.a.view_is)

pub returns-in-Texts : goal.returns-in-Texts
returns-in-Texts c = λ texts apart given. if_ok_same _ _ _ c.distinct_values.ensures (texts_distinct _ _ _ _ (ap borrowed_column (sym c.in-Texts.is) ∙ c.a.view_is) apart given)
