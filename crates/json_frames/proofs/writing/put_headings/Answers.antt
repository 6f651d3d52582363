use Rattle.{meaning_json.{proofs.cells.Common.{◌<◌, ℕ, length, map, arith}, specs.{tables.Table.{Table}, JsonWrite.{label_json, column_labels}}}, json_frames.proofs.{ArrayLaws.{item_more}, TableLaws.{heading_json, headings_json}}}
use Rattle.json_frames.proofs.writing.put_headings.Goals as goal

pub loop-column-preserved : goal.loop-column-preserved
loop-column-preserved g c =
    let t : Table = c.args.source.now in
    let k : ℕ = c.loop-column.column in
    let within : k < length t.headings = omega (arith, c.columns-column-end.ensures.headings) in
    item_more (map label_json (column_labels t)) _ _ _ k _ (omega (arith, headings_json t k)) (heading_json t k within) c.in_ok-put_heading.ensures c.loop-column.invariant
