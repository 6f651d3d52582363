use Rattle.{meaning_json.{proofs.cells.Common.{◌<◌, ℕ, length, map, arith, na_cell}, specs.{tables.Table.{Table, rows_of}, JsonWrite.{cells_json}}}, json_frames.proofs.{ArrayLaws.{item_more, items_closed}, TableLaws.{row_value, rows_count}}}
use Rattle.json_frames.proofs.writing.put_rows.Goals as goal

pub loop-row-preserved : goal.loop-row-preserved
loop-row-preserved g c =
    let t : Table = c.args.source.now in
    let k : ℕ = c.loop-row.row in
    let within : k < length t.labels = omega (arith, c.rows-row-end.ensures) in
    item_more (map cells_json (rows_of na_cell t)) _ _ _ k _ (omega (arith, rows_count t k)) (row_value t k within) c.in_ok-put_row.ensures c.loop-row.invariant

pub returns : goal.returns
returns g c =
    let t : Table = c.args.source.now in
    let k : ℕ = c.loop-row.row in
    items_closed (map cells_json (rows_of na_cell t)) _ _ _ k _ (omega (arith, rows_count t k)) c.loop-row.invariant c.end_array.ensures
