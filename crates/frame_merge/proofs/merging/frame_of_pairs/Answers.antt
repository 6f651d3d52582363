use Rattle.{
  frame_parts.proofs.Common.{arith, columns_name_part},
  frame_merge.proofs.TableLaws.{beyond_so, made_is, parts_fit},
  frame_labels.proofs.NamedLaws.{others_inside},
}
use Rattle.frame_merge.proofs.merging.frame_of_pairs.Goals as goal

pub common_name-name-requires-clause-a : goal.common_name-name-requires-clause-a
common_name-name-requires-clause-a c = rw c.columns_name.ensures (columns_name_part _ _ c.requires.left.given)

pub common_name-name-requires-clause-b : goal.common_name-name-requires-clause-b
common_name-name-requires-clause-b c = rw c.columns_name-2.ensures (columns_name_part _ _ c.requires.right.given)

pub returns-then-not-within_limits-clause-answer : goal.returns-then-not-within_limits-clause-answer
returns-then-not-within_limits-clause-answer c =
    beyond_so _ _ _ _ _ c.requires _ _ _ c.in_ok-labels.ensures c.as_slice.ensures.value _ c.len-count.ensures (grind arith)

pub columns_met-requires-clause-rights : goal.columns_met-requires-clause-rights
columns_met-requires-clause-rights c = others_inside _ _ _ _ c.in_ok-rights.ensures c.columns.ensures

pub new-requires-clause-whole : goal.new-requires-clause-whole
new-requires-clause-whole c =
    parts_fit _ _ _ _ _ c.requires _ _ _ c.in_ok-labels.ensures c.as_slice.ensures.value _ c.len-count.ensures
    _ _ c.in_ok-rights.ensures c.columns.ensures _ _ _ c.columns_name.ensures c.columns_name-2.ensures c.common_name-name.ensures _ c.in_ok-axis.ensures _ c.in_ok-headings.ensures _ c.in_ok-blocks.ensures.columns

pub returns-clause-answer : goal.returns-clause-answer
returns-clause-answer c =
    made_is _ _ _ _ _ c.requires _ _ _ c.in_ok-labels.ensures c.as_slice.ensures.value _ c.len-count.ensures
    _ _ c.in_ok-rights.ensures c.columns.ensures _ _ _ c.columns_name.ensures c.columns_name-2.ensures c.common_name-name.ensures _ c.in_ok-axis.ensures _ c.in_ok-headings.ensures _ c.in_ok-blocks.ensures.columns
    (grind arith) _ c.new.ensures
