use Rattle.{
  meaning_cells.proofs.Common.{arith},
  column_core.proofs.{CellRows.{range-same}, MoveLaws.{get_or-tabulate}, ColumnLaws.{length-tabulate}},
}
use Rattle.column_core.proofs.columns.ColRef.strided.Goals as goal

pub strided-requires : goal.strided-requires
strided-requires = grind (arith, length-tabulate)

pub returns-in-Ints-clause-cells : goal.returns-in-Ints-clause-cells
returns-in-Ints-clause-cells = grind (arith, range-same, get_or-tabulate, length-tabulate)

pub strided-requires-in-Truths : goal.strided-requires-in-Truths
strided-requires-in-Truths = grind (arith, length-tabulate)

pub returns-in-Truths-clause-cells : goal.returns-in-Truths-clause-cells
returns-in-Truths-clause-cells = grind (arith, range-same, get_or-tabulate, length-tabulate)

pub strided-requires-in-Texts : goal.strided-requires-in-Texts
strided-requires-in-Texts = grind (arith, length-tabulate)

pub returns-in-Texts-clause-cells : goal.returns-in-Texts-clause-cells
returns-in-Texts-clause-cells = grind (arith, range-same, get_or-tabulate, length-tabulate)
