use Rattle.nullable_array.proofs.ColumnAnswers.{given_at}
use Rattle.column_operators.proofs.kernels.sums_beside.Goals as goal

pub returns-in-Ints-Int-clause-given : goal.returns-in-Ints-Int-clause-given
returns-in-Ints-Int-clause-given c = given_at _ _ c.beside_lane.ensures.given

pub returns-in-Ints-Na-clause-given : goal.returns-in-Ints-Na-clause-given
returns-in-Ints-Na-clause-given c = given_at _ _ c.beside_lane-in-Ints-Na.ensures.given
