use Rattle.{meaning_json.{proofs.cells.Common.{◌<◌, ℕ, length, map, arith}, specs.{tables.Table.{Table}, JsonWrite.{label_json, row_labels}}}, json_frames.proofs.{ArrayLaws.{item_more}, TableLaws.{label_value, labels_count}}}
use Rattle.json_frames.proofs.writing.put_row_labels.Goals as goal

pub loop-row-preserved : goal.loop-row-preserved
loop-row-preserved g c =
    let t : Table = c.args.source.now in
    let k : ℕ = c.loop-row.row in
    let within : k < length t.labels = omega (arith, c.rows-row-end.ensures) in
    item_more (map label_json (row_labels t)) _ _ _ k _ (omega (arith, labels_count t k)) (label_value t k within) c.in_ok-put_label.ensures c.loop-row.invariant
