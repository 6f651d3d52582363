use Rattle.{
  meaning_json.{proofs.cells.Common.{◌≡◌, length, list_all}, specs.JsonRead.{is_record}},
  json_frames.specs.Views.{values_seen},
}
use Rattle.json_frames.proofs.values.are_records.Given as goal

-- the others are such just where all are
abbrev pub invariant-loop-rest : goal.invariant-loop-rest
invariant-loop-rest l = list_all is_record (values_seen l.rest) ≡ list_all is_record (values_seen l.rows)

abbrev pub decreases-loop-rest : goal.decreases-loop-rest
decreases-loop-rest l = length l.rest
