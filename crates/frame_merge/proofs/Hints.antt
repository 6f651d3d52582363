-- Laws that the goals of functions want, by the name of the first that does.
use Rattle.{column_core.proofs.cells.Common.{drop_all, append-nil}, frame_parts.proofs.Common.{map-append, length-map, single_on}, frame_merge.proofs.{TableLaws.{one_more_in_range}, KeyLaws.{all_count, common_seen, common_given, each_named, key_met, key_place, key_passed, no_key}}}

pub ruleset left_columns = (single_on, one_more_in_range, map-append)

pub ruleset common_labels = (drop_all, append-nil, common_seen, common_given)

pub ruleset keys_named = (length-map, all_count, each_named)

pub ruleset key_at = (key_met, key_place, key_passed, no_key)
