use Rattle.{
  column_core.proofs.{cells.Common.{arith}, ColumnLaws.{length-tabulate}},
  nullable_array.proofs.ColumnAnswers.{given_at},
}
use Rattle.column_operators.proofs.kernels.pure_on_columns.Goals as goal

pub on_lanes-requires : goal.on_lanes-requires
on_lanes-requires = grind (arith, length-tabulate)

pub on_lanes-requires-in-Truths-Truths : goal.on_lanes-requires-in-Truths-Truths
on_lanes-requires-in-Truths-Truths = grind (arith, length-tabulate)

pub on_texts-requires-clause-same : goal.on_texts-requires-clause-same
on_texts-requires-clause-same = grind (arith, length-tabulate)

pub returns-in-Ints-Ints-clause-given : goal.returns-in-Ints-Ints-clause-given
returns-in-Ints-Ints-clause-given c = given_at _ _ c.on_lanes.ensures.given

pub returns-in-Truths-Truths-clause-given : goal.returns-in-Truths-Truths-clause-given
returns-in-Truths-Truths-clause-given c = given_at _ _ c.on_lanes-in-Truths-Truths.ensures.given
