-- Laws that the goals of functions want, by the name of the first that does.
use Rattle.script_state.proofs.{Bindings.{value_at-bindings_of}, Fetching.{nameless_file, spent_file, stuck_file, read_file, long_file, absent_file}}

pub ruleset find = (value_at-bindings_of)

pub ruleset file_named = (nameless_file, spent_file, stuck_file, read_file, long_file, absent_file)
