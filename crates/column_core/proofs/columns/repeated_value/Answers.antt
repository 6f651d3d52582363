use Rattle.{
  meaning_cells.proofs.Common.{◌∙◌},
  column_core.proofs.BlockLaws.{repeated_column},
}
use Rattle.column_core.proofs.columns.repeated_value.Goals as goal

pub returns : goal.returns
returns g c = c.column.ensures ∙ repeated_column _ g.T.Element.cell _ _ _ _ c.in_ok-rows.ensures.count c.in_ok-rows.ensures.rows
