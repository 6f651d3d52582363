use Rattle.{
  column_core.proofs.cells.Common.{refl, sym, rules},
  column_operators.{specs.Tasks.{operator_of}, proofs.RowLaws.{column_rows}},
}
use Rattle.column_operators.proofs.kernels.pure_binary.Goals as goal

pub returns-clause-rows : goal.returns-clause-rows
returns-clause-rows c = column_rows c.args.dict.now c.args.dict.now (operator_of c.args.op) c.args.a c.args.b _ _ refl (sym c.requires.same) (search rules)
