use Rattle.column_operators.{specs.Vectors.{IsTruth}, proofs.VectorLaws.{strip_added}}
use Rattle.column_operators.proofs.vectors.push_strip.Goals as goal

pub returns : goal.returns
returns g c =
    let op = c.args.op.now in
    let a = c.args.a.now in
    let b = c.args.b.now in
    strip_added (g.O.RowOp.row_of op) (g.O.PairOp.flag_of op) (g.O.PairOp.value_of op) _ _ (g.A.Side.value_at a) (g.B.Side.value_at b) (g.A.Side.flag_at a) (g.B.Side.flag_at b)
    (g.met.O.PairOp.row_is op) (g.met.A.Side.row_at a) (g.met.B.Side.row_at b) _ c.args.from (g.X.Vectored.lane_is c.values-x.result) (g.X.Vectored.lane_is c.values-y.result)
    (IsTruth c.flags.result) (IsTruth c.flags-2.result) (IsTruth c.flags-flags.result) (g.U.Vectored.lane_is c.values.result)
    c.values-x.ensures c.values-y.ensures c.flags.ensures c.flags-2.ensures c.flags-flags.ensures c.values.ensures _ _ _ _ c.push.ensures c.push-2.ensures c.requires.so_far
