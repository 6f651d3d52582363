use Rattle.{meaning_json.{proofs.cells.Common.{◌<◌, ℕ, length, map, arith, na_cell}, specs.{tables.Table.{Table, rows_of}, JsonWrite.{record_json, column_labels}}}, json_frames.proofs.{ArrayLaws.{item_more, items_closed}, TableLaws.{record_value, records_count}}}
use Rattle.json_frames.proofs.writing.put_records.Goals as goal

pub loop-row-preserved : goal.loop-row-preserved
loop-row-preserved g c =
    let t : Table = c.args.source.now in
    let k : ℕ = c.loop-row.row in
    let within : k < length t.labels = omega (arith, c.rows-row-end.ensures) in
    item_more (map (record_json (column_labels t)) (rows_of na_cell t)) _ _ _ k _ (omega (arith, records_count t k (column_labels t))) (record_value t k (column_labels t) within) c.in_ok-put_record.ensures c.loop-row.invariant

pub returns : goal.returns
returns g c =
    let t : Table = c.args.source.now in
    let k : ℕ = c.loop-row.row in
    items_closed (map (record_json (column_labels t)) (rows_of na_cell t)) _ _ _ k _ (omega (arith, records_count t k (column_labels t))) c.loop-row.invariant c.end_array.ensures
