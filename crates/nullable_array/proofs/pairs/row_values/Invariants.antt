use Rattle.{
  column_core.proofs.cells.Common.{◌*◌},
  nullable_array.specs.Pairs.{AreFilled},
}
use Rattle.nullable_array.proofs.pairs.row_values.Given as goal

-- the values of the stretches so far, and room for all
abbrev pub invariant-loop-stretch : goal.invariant-loop-stretch
invariant-loop-stretch g l = AreFilled (g.O.PairOp.value_of l.op) (g.A.Side.value_at l.a) (g.A.Side.flag_at l.a) (g.B.Side.value_at l.b) (g.B.Side.flag_at l.b) (g.A.Source.count_of l.a) (l.stretch * 32) l.values
