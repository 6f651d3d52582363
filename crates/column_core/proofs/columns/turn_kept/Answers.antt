use Rattle.{
  meaning_cells.proofs.Common.{ap, sym},
  column_core.{specs.{Columns.{number_cell, truth_cell, text_cell}, Views.{kept_column}}, proofs.BlockLaws.{turned_column}},
}
use Rattle.column_core.proofs.columns.turn_kept.Goals as goal

pub returns-in-Ints : goal.returns-in-Ints
returns-in-Ints c = turned_column _ number_cell _ _ _ _ _ c.reverse.ensures.values c.reverse.ensures.present c.in-Ints.rows.alike (ap kept_column (sym c.in-Ints.is))

pub returns-in-Truths : goal.returns-in-Truths
returns-in-Truths c = turned_column _ truth_cell _ _ _ _ _ c.reverse-in-Truths.ensures.values c.reverse-in-Truths.ensures.present c.in-Truths.rows.alike (ap kept_column (sym c.in-Truths.is))

pub returns-in-Texts : goal.returns-in-Texts
returns-in-Texts c = turned_column _ text_cell _ _ _ _ _ c.reverse-in-Texts.ensures.values c.reverse-in-Texts.ensures.present c.in-Texts.rows.alike (ap kept_column (sym c.in-Texts.is))
