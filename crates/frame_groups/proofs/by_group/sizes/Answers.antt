use Rattle.{
  frame_parts.proofs.Common.{◌∙◌, ap, sym, refl, [], ◌∷◌, length, err_from_is_err_and, table_value},
  frame_groups.{proofs.{GroupLaws.{group_headings_settled, group_headings_counted, size_table, size_shown, size_headings, sizes_boxed, sizes_seen, one_settled, group_made, axis_counted, blocks_counted}, ShownLaws.{made_is, refused_is, stands_again, unshared_is}}, specs.Grouped.{grouping_seen}},
}
use Rattle.frame_groups.proofs.by_group.sizes.Goals as goal

-- the headings
pub returns-in_err-labels : goal.returns-in_err-labels
returns-in_err-labels c = λ named.
    let p = err_from_is_err_and c.from_residual-in_err-labels.result c.from_residual-in_err-labels.ensures.1 in
    rw (p.1, p.2) (stands_again _ _ _ _ _ (size_shown c.args.dict.now c.args.on.now c.args.grouping.now c.args.heading c.requires.heading named) c.in_err-labels.ensures.refused)

pub returns-in_err-headings : goal.returns-in_err-headings
returns-in_err-headings c = λ named.
    let t = c.args.on.now in
    let g = c.args.grouping.now in
    let h = c.args.heading in
    let p = err_from_is_err_and c.from_residual-in_err-headings.result c.from_residual-in_err-headings.ensures.1 in
    rw (p.1, p.2)
    (refused_is _ _ _ _ _ (unshared_is _ _ _ (size_shown _ t g h c.requires.heading named) c.in_ok-labels.ensures.unshared)
    (c.in_err-headings.ensures.may c.args.dict.now (size_table _ t g h c.requires.heading) (size_headings _ t g h c.requires.heading c.as_slice.result.now _ (c.as_slice.ensures.value ∙ c.in_ok-labels.ensures.made) (c.count-count.ensures ∙ ap (λ gs. gs.count) c.in_ok-found.ensures.groups))))

-- the table
pub new_table-requires-clause-single : goal.new_table-requires-clause-single
new_table-requires-clause-single c =
    let dict = c.args.dict.now in
    (sizes_boxed dict c.in_ok-found.found.groups _ _ _ _ c.into_block.ensures c.in_ok-push.ensures.ok (c.in_ok-column.ensures.answer dict) (c.in_ok-column.ensures.given dict) c.in_ok-blocks.ensures.blocks).single

pub new_table-requires-clause-rows : goal.new_table-requires-clause-rows
new_table-requires-clause-rows c =
    let dict = c.args.dict.now in
    rw (ap (λ gs. gs.count) c.in_ok-found.ensures.groups ∙ sym (axis_counted dict (table_value dict c.args.on.now) (grouping_seen dict c.args.grouping.now) c.in_ok-axis.axis c.in_ok-axis.ensures)) at (sizes_boxed dict c.in_ok-found.found.groups _ _ _ _ c.into_block.ensures c.in_ok-push.ensures.ok (c.in_ok-column.ensures.answer dict) (c.in_ok-column.ensures.given dict) c.in_ok-blocks.ensures.blocks).filled

pub new_table-requires-clause-headed : goal.new_table-requires-clause-headed
new_table-requires-clause-headed c =
    let t = c.args.on.now in
    let g = c.args.grouping.now in
    ap (λ h. length h.labels) c.in_ok-headings.ensures.made
    ∙ ap (λ l. length l) (c.as_slice.ensures.value ∙ c.in_ok-labels.ensures.made)
    ∙ sym (blocks_counted _ _ _ (sizes_seen _ t g _ _ _ _ _ c.into_block.ensures c.in_ok-push.ensures.ok (c.in_ok-column.ensures.answer c.args.dict.now) c.in_ok-found.ensures.groups c.in_ok-blocks.ensures.columns) ∙ group_headings_counted _ t g (c.args.heading ∷ []) _ refl)

pub returns : goal.returns
returns c = λ named.
    let dict = c.args.dict.now in
    let t = c.args.on.now in
    let g = c.args.grouping.now in
    let h = c.args.heading in
    let labels = c.as_slice.ensures.value ∙ c.in_ok-labels.ensures.made in
    let headed = size_headings _ t g h c.requires.heading c.as_slice.result.now _ labels (c.count-count.ensures ∙ ap (λ gs. gs.count) c.in_ok-found.ensures.groups) in
    made_is _ _ _ _ _ _ _ _ _ _
    (group_made _ t g _ _ _ _ _ _ _ c.requires.known.given c.columns_name-name.ensures c.in_ok-axis.ensures headed.headings (rw labels (group_headings_settled _ t g (h ∷ []) c.requires.known.given (one_settled _ h c.requires.given))) (sizes_seen _ t g _ _ _ _ _ c.into_block.ensures c.in_ok-push.ensures.ok (c.in_ok-column.ensures.answer dict) c.in_ok-found.ensures.groups c.in_ok-blocks.ensures.columns) (sizes_boxed _ c.in_ok-found.found.groups _ _ _ _ c.into_block.ensures c.in_ok-push.ensures.ok (c.in_ok-column.ensures.answer dict) (c.in_ok-column.ensures.given dict) c.in_ok-blocks.ensures.blocks))
    (unshared_is _ _ _ (size_shown _ t g h c.requires.heading named) c.in_ok-labels.ensures.unshared) (c.in_ok-headings.ensures.may dict (size_table _ t g h c.requires.heading) headed) c.in_ok-headings.ensures.made c.new_table.ensures
