use Rattle.column_core.proofs.MoveLaws.{if_ok_cells, shifted_seen}
use Rattle.column_core.proofs.moves.shift_rows.Goals as goal

pub returns-clause-cells : goal.returns-clause-cells
returns-clause-cells g c = λ p d b.
    if_ok_cells _ _ _ c.copied.ensures
    (shifted_seen g.T.Element.cell g.met.T.Element.missing _ _ p _ _ d b)
