use Rattle.{meaning_json.{proofs.cells.Common.{◌≡◌, ◌++◌, map, drop}, specs.{JsonWrite.{items_of, label_json, column_labels, labels_json}}}, json.specs.Tree.{json_tokens, items_tokens}}
use Rattle.json_frames.proofs.writing.put_headings.Given as goal

-- what is written, before the other items
abbrev pub invariant-loop-column : goal.invariant-loop-column
invariant-loop-column g l = l.out ++ items_tokens (items_of (drop l.column (map label_json (column_labels l.source)))) ≡ l.fn.out ++ json_tokens (labels_json (column_labels l.source))
