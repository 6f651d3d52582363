use Rattle.column_core.proofs.MoveLaws.{if_ok_cells, taken_seen}
use Rattle.column_core.proofs.moves.take_rows.Goals as goal

pub returns-clause-cells : goal.returns-clause-cells
returns-clause-cells g c =
    if_ok_cells _ _ _ c.picked.ensures (taken_seen g.T.Element.cell g.met.T.Element.missing _ _ c.args.places.now c.requires)
