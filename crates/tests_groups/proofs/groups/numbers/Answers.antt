use Rattle.column_core.{proofs.cells.Common.{◌∙◌, ap, sym, subst, All-push, IsGiven}, specs.Columns.{CellColumn, number_given}}
use Rattle.tests_groups.proofs.groups.numbers.Goals as goal

pub loop-value-preserved : goal.loop-value-preserved
loop-value-preserved c = record {
  kind = ap (λ (col : CellColumn). col.kind) c.in_ok-push.ensures.ok ∙ c.loop-value.invariant.kind;
  given = λ texts. rw c.in_ok-push.ensures.ok
      (All-push (IsGiven texts) c.loop-value.column.cells c.cell_of_number.result (c.loop-value.invariant.given texts) (subst (IsGiven texts) (sym c.cell_of_number.ensures.cell) (number_given texts _)));
}
