use Rattle.{
  meaning_cells.proofs.Common.{◌∙◌, ap},
  column_core.proofs.{CellRows.{same_column}, MoveLaws.{shifted_seen}},
}
use Rattle.column_core.proofs.moves.shift_side.Goals as goal

pub returns-clause-cells : goal.returns-clause-cells
returns-clause-cells g c = λ p d b.
    ap (λ col. col.cells) (c.column.ensures ∙ same_column _ g.T.Element.cell _ _ _ _ c.in_ok-moved.ensures.count c.in_ok-moved.ensures.rows)
    ∙ shifted_seen g.T.Element.cell g.met.T.Element.missing _ _ p _ _ d b
