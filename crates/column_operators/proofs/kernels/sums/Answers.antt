use Rattle.{
  column_core.{proofs.{cells.Common.{arith, ap, sym, ◌∙◌}, ColumnLaws.{length-tabulate, given-row}}, specs.Views.{borrowed_column}},
  nullable_array.proofs.ColumnAnswers.{given_at},
}
use Rattle.column_operators.proofs.kernels.sums.Goals as goal

pub on_lanes-requires : goal.on_lanes-requires
on_lanes-requires = grind (arith, length-tabulate)

pub joined-requires-clause-same : goal.joined-requires-clause-same
joined-requires-clause-same = grind (arith, length-tabulate)

pub returns-in-Ints-Ints-clause-given : goal.returns-in-Ints-Ints-clause-given
returns-in-Ints-Ints-clause-given c = given_at _ _ c.on_lanes.ensures.given

pub joined-requires-clause-a : goal.joined-requires-clause-a
joined-requires-clause-a c = λ k lt.
    given-row _ _ _ (rw (sym (ap borrowed_column (sym c.in-Texts-Texts.is-0) ∙ c.a.view_is)) at c.requires.a) k lt

pub joined-requires-clause-b : goal.joined-requires-clause-b
joined-requires-clause-b c = λ k lt.
    given-row _ _ _ (rw (sym (ap borrowed_column (sym c.in-Texts-Texts.is-1) ∙ c.b.view_is)) at c.requires.b) k lt
