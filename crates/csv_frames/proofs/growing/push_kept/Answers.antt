use Rattle.{
  column_core.{proofs.cells.Common.{arith, ap, sym}, specs.{Columns.{number_cell, truth_cell}, Views.{kept_column}}},
  csv_frames.proofs.{GrowingLaws.{put_grown, text_grown, number_seen}, SettledLaws.{longer_self}},
}
use Rattle.csv_frames.proofs.growing.push_kept.Goals as goal

pub returns-in-Ints-clause-grown : goal.returns-in-Ints-clause-grown
returns-in-Ints-clause-grown c =
    put_grown _ _ _ c.args.field.now _ number_cell _ c.in-Ints.rows c.push_number.new.rows _ (longer_self _) (ap kept_column (sym c.in-Ints.is)) (grind arith) (number_seen _ c.args.field.now) c.push_number.ensures.pushed

pub returns-in-Truths-clause-grown : goal.returns-in-Truths-clause-grown
returns-in-Truths-clause-grown c =
    put_grown _ _ _ c.args.field.now _ truth_cell _ c.in-Truths.rows c.push_truth.new.rows _ (longer_self _) (ap kept_column (sym c.in-Truths.is)) (grind arith) (grind arith) c.push_truth.ensures.pushed

pub returns-in-Texts-clause-grown : goal.returns-in-Texts-clause-grown
returns-in-Texts-clause-grown c =
    text_grown _ _ _ c.args.field.now c.in-Texts.rows c.push_text.new.rows _ c.push_text.ensures.longer (ap kept_column (sym c.in-Texts.is)) c.push_text.ensures.pushed
