use Rattle.meaning_json.proofs.cells.Common.{length}
use Rattle.json_frames.specs.Labels.{IsFoundBehind}
use Rattle.json_frames.proofs.labels.first_repeated.Given as goal

abbrev pub invariant-loop-rest : goal.invariant-loop-rest
invariant-loop-rest l = IsFoundBehind l.texts l.rest l.later l.found

abbrev pub decreases-loop-rest : goal.decreases-loop-rest
decreases-loop-rest l = length l.rest
