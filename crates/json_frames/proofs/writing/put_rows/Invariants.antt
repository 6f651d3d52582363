use Rattle.{meaning_json.{proofs.cells.Common.{◌≡◌, ◌++◌, map, drop, na_cell}, specs.{tables.Table.{rows_of}, JsonWrite.{items_of, cells_json, rows_json}}}, json.specs.Tree.{json_tokens, items_tokens}}
use Rattle.json_frames.proofs.writing.put_rows.Given as goal

-- what is written, before the other items
abbrev pub invariant-loop-row : goal.invariant-loop-row
invariant-loop-row g l = l.out ++ items_tokens (items_of (drop l.row (map cells_json (rows_of na_cell l.source)))) ≡ l.fn.out ++ json_tokens (rows_json l.source)
