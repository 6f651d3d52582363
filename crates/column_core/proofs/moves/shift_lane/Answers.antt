use Rattle.column_core.proofs.{CellRows.{same_column}, MoveLaws.{if_ok_change}}
use Rattle.column_core.proofs.moves.shift_lane.Goals as goal

pub returns-in-Some-clause-cells : goal.returns-in-Some-clause-cells
returns-in-Some-clause-cells g c = λ p d b.
    if_ok_change _ _ _ (c.shift_side.ensures.cells p d b)
    (cc (same_column g.T.Element.kind g.T.Element.cell _ _ _ _ c.in-Some.ensures.count c.in-Some.ensures.rows))
