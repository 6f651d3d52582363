use Rattle.{
  meaning_json.{proofs.cells.Common.{◌≡◌, ◌++◌, map, drop}, specs.JsonWrite.{key_text, column_labels}},
  json_frames.specs.Labels.{texts_seen},
}
use Rattle.json_frames.proofs.writing.keys_of.Given as goal

-- the texts so far, before the others
abbrev pub invariant-loop-column : goal.invariant-loop-column
invariant-loop-column g l = texts_seen l.keys.items ++ drop l.column (map key_text (column_labels l.source)) ≡ map key_text (column_labels l.source)
