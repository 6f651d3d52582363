use Rattle.{
  meaning_json.proofs.cells.Common.{◌≡◌, ◌++◌, List, length},
  serde_json.specs.Data.{Data},
  json_frames.specs.{Views.{values_seen}, Kinds.{OfRows}},
}
use Rattle.json_frames.proofs.kinds.kinds_of.Given as goal

-- the kinds of the rows so far
abbrev pub invariant-loop-rest : goal.invariant-loop-rest
invariant-loop-rest l = (done : List Data) × (values_seen l.rows ≡ done ++ values_seen l.rest) × OfRows l.kinds done

abbrev pub decreases-loop-rest : goal.decreases-loop-rest
decreases-loop-rest l = length l.rest
