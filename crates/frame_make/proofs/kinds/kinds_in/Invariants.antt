use Rattle.{
  frame_parts.proofs.Common.{◌≡◌, ◌++◌, length, Tables, entries_of},
  csv_frames.specs.Views.{entries_seen},
}
use Rattle.meaning_method.specs.Readers as readers
use Rattle.frame_make.proofs.kinds.kinds_in.Given as goal

-- the kinds so far, before those of the other pairs
abbrev pub invariant-loop-rest : goal.invariant-loop-rest
invariant-loop-rest l = (live : Tables) → entries_seen l.dict l.kinds ++ readers.kinds_in (entries_of live l.dict l.rest) ≡ readers.kinds_in (entries_of live l.dict l.pairs)

abbrev pub decreases-loop-rest : goal.decreases-loop-rest
decreases-loop-rest l = length l.rest
