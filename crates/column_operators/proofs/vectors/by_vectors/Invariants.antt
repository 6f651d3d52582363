use Rattle.{
  column_core.proofs.cells.Common.{◌*◌},
  column_operators.specs.Vectors.{AreRows},
}
use Rattle.column_operators.proofs.vectors.by_vectors.Given as goal

-- the rows of the strips so far
abbrev pub invariant-loop-strip : goal.invariant-loop-strip
invariant-loop-strip g l = AreRows (λ k. g.O.RowOp.row_of l.op (g.A.Source.row_of l.a k) (g.B.Source.row_of l.b k)) (g.A.Source.count_of l.a) (l.strip * 16) l.values l.present
