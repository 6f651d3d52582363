use Rattle.column_operators.specs.Vectors.{AreRows}
use Rattle.column_operators.proofs.vectors.push_rest.Given as goal

-- the rows so far
abbrev pub invariant-loop-row : goal.invariant-loop-row
invariant-loop-row g l = AreRows (λ k. g.O.RowOp.row_of l.op (g.A.Source.row_of l.a k) (g.B.Source.row_of l.b k)) (g.A.Source.count_of l.a) l.row l.values l.present
