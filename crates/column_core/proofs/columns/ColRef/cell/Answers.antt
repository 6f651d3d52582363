use Rattle.{
  meaning_cells.proofs.Common.{arith},
  column_core.proofs.ColumnLaws.{length-tabulate, get-tabulate},
}
use Rattle.column_core.proofs.columns.ColRef.cell.Goals as goal

pub get-requires : goal.get-requires
get-requires = grind (arith, length-tabulate)

pub returns-in-Ints-clause-cell : goal.returns-in-Ints-clause-cell
returns-in-Ints-clause-cell = grind (arith, length-tabulate, get-tabulate)

pub get-requires-in-Truths : goal.get-requires-in-Truths
get-requires-in-Truths = grind (arith, length-tabulate)

pub returns-in-Truths-clause-cell : goal.returns-in-Truths-clause-cell
returns-in-Truths-clause-cell = grind (arith, length-tabulate, get-tabulate)

pub get-requires-in-Texts : goal.get-requires-in-Texts
get-requires-in-Texts = grind (arith, length-tabulate)

pub returns-in-Texts-clause-cell : goal.returns-in-Texts-clause-cell
returns-in-Texts-clause-cell = grind (arith, length-tabulate, get-tabulate)
