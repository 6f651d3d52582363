use Rattle.column_operators.proofs.VectorLaws.{row_made, row_added}
use Rattle.column_operators.proofs.vectors.push_rest.Goals as goal

pub loop-row-preserved : goal.loop-row-preserved
loop-row-preserved g c =
    let op = c.args.op.now in
    let a = c.args.a.now in
    let b = c.args.b.now in
    let row = c.loop-row.row in
    row_added (λ k. g.O.RowOp.row_of op (g.A.Source.row_of a k) (g.B.Source.row_of b k)) (g.A.Source.count_of a) row _ _ _ _ c.value.result c.flag.result c.loop-row.invariant
    c.push_reserved.ensures.items c.push_reserved.ensures.len c.push_reserved.ensures.capacity
    c.push_reserved-in-loop-row.ensures.items c.push_reserved-in-loop-row.ensures.len c.push_reserved-in-loop-row.ensures.capacity
    (row_made (g.O.RowOp.row_of op) (g.O.PairOp.flag_of op) (g.O.PairOp.value_of op) (g.A.Source.row_of a row) (g.B.Source.row_of b row) c.value-x.result c.value-y.result (g.A.Side.flag_at a row) (g.B.Side.flag_at b row) c.flag-p.result c.flag-q.result c.flag.result c.value.result
    (g.met.O.PairOp.row_is op) (g.met.A.Side.row_at a row _ c.value-x.ensures) (g.met.B.Side.row_at b row _ c.value-y.ensures)
    c.flag-p.ensures c.flag-q.ensures c.flag.ensures c.value.ensures)
