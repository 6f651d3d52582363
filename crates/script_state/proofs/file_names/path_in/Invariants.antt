use Rattle.{
  frame_calls.proofs.frame_parts.Common.{◌≡◌, length},
  meaning_laws.specs.script.Reading.{path_of_name},
  script_state.specs.Reads.{paths_of},
}
use Rattle.script_state.proofs.file_names.path_in.Given as goal

abbrev pub invariant-loop-rest : goal.invariant-loop-rest
invariant-loop-rest l = path_of_name (paths_of l.pairs) l.name ≡ path_of_name (paths_of l.rest) l.name

abbrev pub decreases-loop-rest : goal.decreases-loop-rest
decreases-loop-rest l = length l.rest
