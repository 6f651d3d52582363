use Rattle.{
  column_core.proofs.cells.Common.{arith},
  merge_concat.proofs.BelowLaws.{cells_append, cells_missing, resized},
}
use Rattle.merge_concat.proofs.growing.with_missing.Goals as goal

pub returns : goal.returns
returns g c = grind (arith, resized, cells_append g.T.Element.cell c.args.rows.values.items, cells_missing g.T.Element.cell)
