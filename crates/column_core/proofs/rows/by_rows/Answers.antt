use Rattle.{
  meaning_cells.proofs.Common.{◌≡◌, length, arith},
  column_core.proofs.RowsMade.{vectors_written, rows_refused},
}
use Rattle.column_core.proofs.rows.by_rows.Goals as goal

pub returns-in-Ok-clause-rows : goal.returns-in-Ok-clause-rows
returns-in-Ok-clause-rows g c =
    let all_values : length c.fill.new.values ≡ c.in_ok-values.values.len = omega arith in
    let all_present : length c.fill.new.present ≡ c.in_ok-present.present.len = omega arith in
    vectors_written _ _ _ _ _ _ _ _ c.in-Ok.ensures.written all_values all_present

pub returns-in-Err-clause-rows : goal.returns-in-Err-clause-rows
returns-in-Err-clause-rows g c = rows_refused _ _ _ c.in-Err.ensures.refused
