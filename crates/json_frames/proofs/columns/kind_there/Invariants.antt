use Rattle.{
  meaning_json.{proofs.cells.Common.{◌≡◌, ◌++◌, List, length, CellValue}, specs.JsonRead.{known_kind}},
  json_frames.specs.{Views.{values_seen, cells_in}, Kinds.{IsUniform}},
}
use Rattle.json_frames.proofs.columns.kind_there.Given as goal

-- what is known of the cells so far
abbrev pub invariant-loop-rest : goal.invariant-loop-rest
invariant-loop-rest l = (done : List CellValue) × (cells_in l.field (values_seen l.rows) ≡ done ++ cells_in l.field (values_seen l.rest)) × (l.known ≡ known_kind done) × IsUniform done

abbrev pub decreases-loop-rest : goal.decreases-loop-rest
decreases-loop-rest l = length l.rest
