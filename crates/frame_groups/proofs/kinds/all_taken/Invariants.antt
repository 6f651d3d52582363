use Rattle.{
  frame_parts.proofs.Common.{◌≡◌, drop, list_all},
  frame_groups.specs.Columns.{takes_at},
}
use Rattle.frame_groups.proofs.kinds.all_taken.Given as goal

-- the columns from here on decide it
abbrev pub invariant-loop-k : goal.invariant-loop-k
invariant-loop-k l = list_all (takes_at l.call l.on) (drop l.k l.places) ≡ list_all (takes_at l.call l.on) l.places
