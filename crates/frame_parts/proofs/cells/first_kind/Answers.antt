use Rattle.frame_parts.proofs.{Common.{arith}, CellLaws.{kind_met, kind_passed, no_kind}}
use Rattle.frame_parts.proofs.cells.first_kind.Goals as goal

pub returns-in-Some : goal.returns-in-Some
returns-in-Some g c = λ texts. kind_met texts (g.C.CellList.cells _) c.loop-place.place _ _ c.cell.ensures _ c.in-Some.ensures.first (c.loop-place.invariant texts)

pub loop-place-preserved : goal.loop-place-preserved
loop-place-preserved g c = λ texts. kind_passed texts (g.C.CellList.cells _) c.loop-place.place _ _ c.cell.ensures c.in-None.ensures.first (c.loop-place.invariant texts)

pub returns : goal.returns
returns g c = λ texts. no_kind texts (g.C.CellList.cells _) c.loop-place.place _ (omega arith) (c.loop-place.invariant texts)
