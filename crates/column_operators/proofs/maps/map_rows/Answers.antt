use Rattle.column_core.proofs.CellRows.{total_made}
use Rattle.column_operators.proofs.maps.map_rows.Goals as goal

pub returns-in-Ok : goal.returns-in-Ok
returns-in-Ok g c =
    total_made _ g.U.Element.cell _ _ _ _ _ _ _ (λ k. g.met.O.TotalOp.total _ (g.A.Source.row_of _ k)) c.in-Ok.ensures.rows c.in-Ok.ensures.count c.column.ensures
