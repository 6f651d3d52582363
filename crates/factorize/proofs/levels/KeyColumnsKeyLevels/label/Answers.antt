use Rattle.{
  column_core.proofs.cells.Common.{arith},
  factorize.proofs.LabelLaws.{columns_counted, column_label, no_column, no_row},
}
use Rattle.factorize.proofs.levels.KeyColumnsKeyLevels.label.Goals as goal

pub returns-then-row-self : goal.returns-then-row-self
returns-then-row-self = grind (arith, no_row, columns_counted)

pub returns-then-level-self : goal.returns-then-level-self
returns-then-level-self c = search no_column

pub returns : goal.returns
returns = grind (arith, column_label)
