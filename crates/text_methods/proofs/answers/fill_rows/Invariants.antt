use Rattle.{
  column_core.proofs.cells.Common.{IsLonger},
  text_methods.specs.Rows.{IsMemo, AreRows},
}
use Rattle.text_methods.proofs.answers.fill_rows.Given as goal

-- the dictionary has grown, what is remembered is right, and the rows so far are written
abbrev pub invariant-loop-row : goal.invariant-loop-row
invariant-loop-row g l = record {
  longer : IsLonger l.fn.dict l.dict;
  memo : IsMemo g.U.Element.cell (g.W.Work.method l.work) l.fn.dict l.dict l.memo;
  rows : AreRows g.U.Element.cell (g.W.Work.method l.work) l.fn.dict l.dict l.row (g.A.Source.row_of l.a) l.values l.present;
}
