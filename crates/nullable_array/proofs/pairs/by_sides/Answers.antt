use Rattle.nullable_array.proofs.PairRows.{sides_written}
use Rattle.nullable_array.proofs.pairs.by_sides.Goals as goal

pub returns-clause-rows : goal.returns-clause-rows
returns-clause-rows g c =
    let a = c.args.a in
    let op = c.args.op.now in
    sides_written _ _ _ _ (g.O.RowOp.row_of op) _ _ _ _
    (g.met.O.PairOp.row_is op) (g.met.A.Side.row_at a) (g.met.B.Side.row_at c.args.b) (g.A.Source.count_of a) c.in_ok-present.present.items _ c.in_ok-present.ensures.flags c.in_ok-values.ensures.values
