use Rattle.{meaning_json.{proofs.cells.Common.{◌<◌, ℕ, [], length, map, sym, ◌∙◌, arith}, specs.{tables.Table.{Table}, JsonWrite.{key_text, column_labels}}}, json_frames.proofs.{ArrayLaws.{one_more}, TableLaws.{key_value, keys_count}, LabelLaws.{text_pushed}}}
use Rattle.json_frames.proofs.writing.keys_of.Goals as goal

pub loop-column-preserved : goal.loop-column-preserved
loop-column-preserved g c =
    let t : Table = c.args.source.now in
    let k : ℕ = c.loop-column.column in
    let within : k < length t.headings = omega (arith, c.columns-column-end.ensures.headings) in
    one_more (map key_text (column_labels t)) _ [] k _ _ (omega (arith, keys_count t k)) (c.in_ok-key.ensures ∙ sym (key_value t k within)) (text_pushed _ _ _ c.in_ok-push.ensures.items) c.loop-column.invariant
