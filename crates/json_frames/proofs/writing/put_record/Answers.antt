use Rattle.{meaning_json.{proofs.cells.Common.{◌<◌, ◌∙◌, ℕ, length, arith, na_cell}, specs.{tables.Table.{Table, row_of}, JsonWrite.{column_labels}}}, json_frames.proofs.{ArrayLaws.{member_more}, TableLaws.{column_count, cell_is, cells_count}, LabelLaws.{key_named}}}
use Rattle.json_frames.proofs.writing.put_record.Goals as goal

pub loop-column-preserved : goal.loop-column-preserved
loop-column-preserved g c =
    let t : Table = c.args.source.now in
    let k : ℕ = c.loop-column.column in
    let within : k < length t.columns = omega (arith, c.columns-column-end.ensures.count) in
    let labelled : k < length (column_labels t) = omega (arith, column_count t k, c.columns-column-end.ensures.headings) in
    member_more (column_labels t) (row_of na_cell t c.args.row).cells _ _ k _ _ _ _ labelled (omega (arith, cells_count t c.args.row k))
    (c.as_str.ensures.value ∙ key_named c.args.keys.now (column_labels t) k _ c.requires.keys labelled c.index-keys-column.is) (cell_is t c.args.row k within) c.in_ok-key.ensures c.in_ok-put_cell.ensures c.loop-column.invariant
