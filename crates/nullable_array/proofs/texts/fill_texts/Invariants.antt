use Rattle.column_core.{proofs.cells.Common.{IsLonger}, specs.Rows.{AreTexts}}
use Rattle.nullable_array.proofs.texts.fill_texts.Given as goal

-- the dictionary has grown, and the texts so far are written
abbrev pub invariant-loop-row : goal.invariant-loop-row
invariant-loop-row g l = record {
  longer : IsLonger l.fn.dict l.dict;
  written : AreTexts l.dict (λ k. g.O.TextOp.written l.op l.fn.dict (g.A.Source.row_of l.a k) (g.B.Source.row_of l.b k)) l.row l.values l.present;
}
