use Rattle.{meaning_json.{proofs.cells.Common.{◌≡◌, ◌++◌, map, drop, na_cell}, specs.{tables.Table.{row_of}, JsonWrite.{items_of, cell_json, cells_json}}}, json.specs.Tree.{json_tokens, items_tokens}}
use Rattle.json_frames.proofs.writing.put_row.Given as goal

-- what is written, before the other items
abbrev pub invariant-loop-column : goal.invariant-loop-column
invariant-loop-column g l = l.out ++ items_tokens (items_of (drop l.column (map cell_json (row_of na_cell l.source l.fn.row).cells))) ≡ l.fn.out ++ json_tokens (cells_json (row_of na_cell l.source l.fn.row))
