use Rattle.{
  column_core.{proofs.cells.Common.{arith, ◌∙◌, ap, sym, Some}, specs.{Columns.{number_cell, truth_cell, text_cell}, Views.{borrowed_column}}},
  column_operators.{specs.Marks.{mark_of}, proofs.MarkLaws.{if_mapped}},
}
use Rattle.column_operators.proofs.missing.marked.Goals as goal

pub returns-in-Ints : goal.returns-in-Ints
returns-in-Ints c =
    if_mapped _ _ _ number_cell truth_cell _ (λ x. Some (mark_of c.args.missing x)) _ _ _
    (grind arith) (ap borrowed_column (sym c.in-Ints.is) ∙ c.a.view_is) c.mark_lane.ensures

pub returns-in-Truths : goal.returns-in-Truths
returns-in-Truths c =
    if_mapped _ _ _ truth_cell truth_cell _ (λ x. Some (mark_of c.args.missing x)) _ _ _
    (grind arith) (ap borrowed_column (sym c.in-Truths.is) ∙ c.a.view_is) c.mark_lane-in-Truths.ensures

pub returns-in-Texts : goal.returns-in-Texts
returns-in-Texts c =
    if_mapped _ _ _ text_cell truth_cell _ (λ x. Some (mark_of c.args.missing x)) _ _ _
    (grind arith) (ap borrowed_column (sym c.in-Texts.is) ∙ c.a.view_is) c.mark_lane-in-Texts.ensures
