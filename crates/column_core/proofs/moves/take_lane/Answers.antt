use Rattle.column_core.proofs.{CellRows.{same_column}, MoveLaws.{if_ok_change}}
use Rattle.column_core.proofs.moves.take_lane.Goals as goal

pub returns-in-Some-clause-cells : goal.returns-in-Some-clause-cells
returns-in-Some-clause-cells g c =
    if_ok_change _ _ _ c.take_rows.ensures.cells
    (cc (same_column g.T.Element.kind g.T.Element.cell _ _ _ _ c.in-Some.ensures.count c.in-Some.ensures.rows))
