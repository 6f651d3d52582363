use Rattle.{
  meaning_cells.proofs.Common.{arith},
  column_core.proofs.ColumnLaws.{length-tabulate},
}
use Rattle.column_core.proofs.columns.ColRef.len.Goals as goal

pub returns-in-Ints : goal.returns-in-Ints
returns-in-Ints = grind (arith, length-tabulate)

pub returns-in-Truths : goal.returns-in-Truths
returns-in-Truths = grind (arith, length-tabulate)

pub returns-in-Texts : goal.returns-in-Texts
returns-in-Texts = grind (arith, length-tabulate)
