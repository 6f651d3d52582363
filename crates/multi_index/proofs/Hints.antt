-- Laws that the goals of functions want, by the name of the first that does.
use Rattle.{
  index_core.proofs.cells.Common.{length-drop, length-range_with_len, length-remove, length-swap},
  multi_index.proofs.{LevelTuples.{width}, ListedLaws.{leads_all, leads_short, stands_equal}, LevelLaws.{levels_below, level_removed, levels_dropped, levels_swapped}},
}

pub ruleset drop_level = (length-range_with_len, length-remove, levels_below, level_removed)

pub ruleset drop_levels = (length-range_with_len, length-drop, levels_below, levels_dropped)

pub ruleset swap_levels = (length-swap, length-range_with_len, levels_below, levels_swapped)

pub ruleset leads = (leads_all, leads_short, width)

pub ruleset compare = (stands_equal, width)
