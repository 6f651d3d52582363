use Rattle.nullable_array.specs.Pairs.{AreFilled}
use Rattle.nullable_array.proofs.pairs.push_values.Given as goal

-- the values so far, and room for all
abbrev pub invariant-loop-row : goal.invariant-loop-row
invariant-loop-row g l = AreFilled (g.O.PairOp.value_of l.op) (g.A.Side.value_at l.a) (g.A.Side.flag_at l.a) (g.B.Side.value_at l.b) (g.B.Side.flag_at l.b) (g.A.Source.count_of l.a) l.row l.values
