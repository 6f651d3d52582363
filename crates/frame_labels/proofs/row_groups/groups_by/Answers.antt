use Rattle.{
  frame_parts.proofs.Common.{arith, ◌∙◌},
  frame_labels.specs.RowGroups.{grouping_by},
  frame_labels.proofs.{KeyLaws.{keys_are}, GroupLaws.{groups_found}},
}
use Rattle.frame_labels.proofs.row_groups.groups_by.Goals as goal

pub returns : goal.returns
returns c =
    let t = c.args.on.now in
    groups_found _ t (grouping_by c.args.keys.now c.args.sorted c.args.dropna) c.len.ensures.distinct c.requires.known.given _ c.group_by_keys.result
    (keys_are t _ _ (grind arith) c.of-rows.result.count (c.of-rows.ensures.count ∙ c.rows.ensures)) c.group_by_keys.ensures.count c.group_by_keys.ensures.codes c.group_by_keys.ensures.firsts
