-- The groups of a frame's rows are those of the rows with their texts.
use Rattle.{
  frame_parts.proofs.Common.{arith, ◌≡◌, List, length, length-map, length-range_with_len, Result, IfOk, Text, NumberedTable, table_value},
  factorize.specs.group.Rows.{GroupsValue},
  frame_labels.proofs.{IndexingLaws.{all_rows, tuples_seen}, KeyLaws.{numbered_keys}},
  frame_groups.specs.{Grouped.{grouping_seen}, declared.grouping.Grouping.{Grouping}},
}
use Rattle.frame_labels.specs.method.Groups as meant

-- a group for each row
pub codes_counted : (texts : List Text) (t : NumberedTable) (g : Grouping) (groups : GroupsValue) → groups ≡ meant.groups_of (table_value texts t) (grouping_seen texts g) → length groups.codes ≡ length t.labels
codes_counted = grind (arith, length-map, tuples_seen, numbered_keys, all_rows, length-range_with_len)

-- what holds of an answer
pub if_ok : {A E : Type 0} (P Q : A → Type 0) (r : Result A E) → ((a : A) → P a → Q a) → IfOk r P → IfOk r Q
if_ok P Q = grind arith
