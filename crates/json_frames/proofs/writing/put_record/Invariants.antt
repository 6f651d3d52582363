use Rattle.{
  meaning_json.{proofs.cells.Common.{◌≡◌, ◌++◌, drop, na_cell}, specs.{tables.Table.{row_of}, JsonWrite.{record_members, record_json, column_labels}}},
  json.specs.Tree.{json_tokens, members_tokens},
}
use Rattle.json_frames.proofs.writing.put_record.Given as goal

-- what is written, before the other members
abbrev pub invariant-loop-column : goal.invariant-loop-column
invariant-loop-column g l =
    let r = row_of na_cell l.source l.fn.row in
    l.out ++ members_tokens (record_members (drop l.column (column_labels l.source)) (drop l.column r.cells)) ≡ l.fn.out ++ json_tokens (record_json (column_labels l.source) r)
