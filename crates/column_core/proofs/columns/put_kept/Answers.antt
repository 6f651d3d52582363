use Rattle.{
  meaning_cells.proofs.Common.{ap, sym, arith},
  column_core.{specs.{Columns.{number_cell, truth_cell, text_cell}, Views.{kept_column}}, proofs.{ColumnLaws.{length-tabulate}, BlockLaws.{put_column}}},
}
use Rattle.column_core.proofs.columns.put_kept.Goals as goal

pub put-requires : goal.put-requires
put-requires = grind (arith, length-tabulate)

pub returns-in-Ints : goal.returns-in-Ints
returns-in-Ints c =
    put_column _ number_cell _ _ _ _ _ _ _ _ _ c.put.ensures.values c.put.ensures.present c.in-Ints.rows.alike c.number_in.ensures (ap kept_column (sym c.in-Ints.is)) c.requires.at

pub put-requires-in-Truths : goal.put-requires-in-Truths
put-requires-in-Truths = grind (arith, length-tabulate)

pub returns-in-Truths : goal.returns-in-Truths
returns-in-Truths c =
    put_column _ truth_cell _ _ _ _ _ _ _ _ _ c.put-in-Truths.ensures.values c.put-in-Truths.ensures.present c.in-Truths.rows.alike c.truth_in.ensures (ap kept_column (sym c.in-Truths.is)) c.requires.at

pub put-requires-in-Texts : goal.put-requires-in-Texts
put-requires-in-Texts = grind (arith, length-tabulate)

pub returns-in-Texts : goal.returns-in-Texts
returns-in-Texts c =
    put_column _ text_cell _ _ _ _ _ _ _ _ _ c.put-in-Texts.ensures.values c.put-in-Texts.ensures.present c.in-Texts.rows.alike c.text_in.ensures (ap kept_column (sym c.in-Texts.is)) c.requires.at
