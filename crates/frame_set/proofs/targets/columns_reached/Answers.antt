use Rattle.{
  frame_parts.proofs.Common.{length-map, arith, ◌≡◌, subst, length, table_value, heading_value, column_labels, MakesBy, subscript_of, settled_by},
  frame_select.specs.{select.{Keys.{columns_by}, Set.{or_added, added_label}}, Reaches.{accessor_of}},
  frame_set.{specs.Values.{reached_value}, proofs.TargetLaws.{columns_tell}},
}
use Rattle.frame_set.proofs.targets.columns_reached.Goals as goal

pub returns-clause-columns : goal.returns-clause-columns
returns-clause-columns c = λ live settled.
    let texts = c.args.dict.now in
    let t = table_value texts c.args.on.now in
    let k = subscript_of live texts c.args.key.now in
    let by = accessor_of c.args.by in
    let many : length (column_labels t) ≡ c.columns.result = grind (arith, length-map) in
    subst (λ o. MakesBy reached_value texts c.picked_or_added.result (or_added o (column_labels t) (columns_by by t k))) (c.label_to_add.ensures live texts)
    (c.picked_or_added.ensures.reached texts (column_labels t) (columns_by by t k) many (c.columns_by-columns.ensures.columns live settled)
    (rw (c.label_to_add.ensures live texts) (columns_tell by t k)))

pub returns-clause-given : goal.returns-clause-given
returns-clause-given c = λ live settled.
    c.picked_or_added.ensures.given _ (settled_by (subscript_of live) heading_value (added_label (accessor_of c.args.by)) _ _ _ (λ ts. grind arith) settled)
