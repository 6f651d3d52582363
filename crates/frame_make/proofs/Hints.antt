-- Laws that the goals of functions want, by the name of the first that does.
use Rattle.{
  frame_parts.proofs.Common.{default_seen},
  frame_make.proofs.FrameLaws.{range_named, count_refused, levels_refused, cells_refused, levels_made, listed_made},
}

pub ruleset counted_axis = (default_seen, range_named)

pub ruleset labelled_axis = (count_refused, levels_refused, cells_refused, levels_made, listed_made)
