use Rattle.{meaning_json.{proofs.cells.Common.{◌≡◌, ◌++◌, map, drop}, specs.{JsonWrite.{items_of, label_json, row_labels, labels_json}}}, json.specs.Tree.{json_tokens, items_tokens}}
use Rattle.json_frames.proofs.writing.put_row_labels.Given as goal

-- what is written, before the other items
abbrev pub invariant-loop-row : goal.invariant-loop-row
invariant-loop-row g l = l.out ++ items_tokens (items_of (drop l.row (map label_json (row_labels l.source)))) ≡ l.fn.out ++ json_tokens (labels_json (row_labels l.source))
