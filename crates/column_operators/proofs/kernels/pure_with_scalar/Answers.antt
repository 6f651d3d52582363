use Rattle.{
  column_core.proofs.cells.Common.{refl, rules},
  column_operators.{specs.Tasks.{operator_of}, proofs.RowLaws.{scalar_rows}},
}
use Rattle.column_operators.proofs.kernels.pure_with_scalar.Goals as goal

pub returns-clause-rows : goal.returns-clause-rows
returns-clause-rows c = scalar_rows c.args.dict.now c.args.dict.now (operator_of c.args.op) c.args.a c.args.scalar c.args.scalar_left _ _ refl (search rules)
