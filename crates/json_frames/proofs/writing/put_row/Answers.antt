use Rattle.{meaning_json.{proofs.cells.Common.{◌<◌, ℕ, length, map, arith, na_cell}, specs.{tables.Table.{Table, row_of}, JsonWrite.{cell_json}}}, json_frames.proofs.{ArrayLaws.{item_more}, TableLaws.{cell_value, values_count}}}
use Rattle.json_frames.proofs.writing.put_row.Goals as goal

pub loop-column-preserved : goal.loop-column-preserved
loop-column-preserved g c =
    let t : Table = c.args.source.now in
    let k : ℕ = c.loop-column.column in
    let within : k < length t.columns = omega (arith, c.columns-column-end.ensures.count) in
    item_more (map cell_json (row_of na_cell t c.args.row).cells) _ _ _ k _ (omega (arith, values_count t c.args.row k)) (cell_value t c.args.row k within) c.in_ok-put_cell.ensures c.loop-column.invariant
