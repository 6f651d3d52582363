use Rattle.{
  frame_parts.proofs.Common.{◌∙◌, ap, sym, length, map, ◌++◌, rules, length-map, err_from_is_err_and, table_value},
  frame_groups.{specs.{declared.columns.ColumnCall.TheVariants.{Reduced}, Columns.{made_at}, Grouped.{grouping_seen}, Tables.{group_keys}}, proofs.{ColumnLaws.{all_taken}, RowLaws.{own_settled, labels_counted}, GroupLaws.{group_headings_settled, reduced_refused, reduced_shown, reduced_headings, reduced_table, group_made, group_headings_counted, axis_counted, blocks_counted}, ShownLaws.{made_is, refused_is, stands_again, unshared_is}}},
}
use Rattle.frame_groups.proofs.by_group.reduced.Goals as goal

pub returns-then-not-all_taken : goal.returns-then-not-all_taken
returns-then-not-all_taken c = reduced_refused c.args.dict.now c.args.on.now c.args.grouping.now c.args.values.now c.args.op (search rules)

-- the headings
pub returns-in_err-labels : goal.returns-in_err-labels
returns-in_err-labels c =
    let p = err_from_is_err_and c.from_residual-in_err-labels.result c.from_residual-in_err-labels.ensures.1 in
    rw (p.1, p.2)
    (stands_again _ _ _ _ _ (reduced_shown c.args.dict.now c.args.on.now c.args.grouping.now c.args.values.now c.args.op _ (c.as_slice.ensures.value ∙ c.in_ok-own.ensures) (search rules)) c.in_err-labels.ensures.refused)

pub returns-in_err-headings : goal.returns-in_err-headings
returns-in_err-headings c =
    let dict = c.args.dict.now in
    let t = c.args.on.now in
    let g = c.args.grouping.now in
    let v = c.args.values.now in
    let owned = c.as_slice.ensures.value ∙ c.in_ok-own.ensures in
    let labels = c.as_slice-2.ensures.value ∙ c.in_ok-labels.ensures.made in
    let count = c.count-count.ensures ∙ ap (λ gs. gs.count) c.in_ok-found.ensures.groups in
    let p = err_from_is_err_and c.from_residual-in_err-headings.result c.from_residual-in_err-headings.ensures.1 in
    rw (p.1, p.2)
    (refused_is _ _ _ _ _ (cc (unshared_is _ _ _ (reduced_shown dict t g v c.args.op _ owned (search rules)) c.in_ok-labels.ensures.unshared, c.is_single-single.ensures))
    (c.in_err-headings.ensures.may dict (reduced_table dict t g v c.args.op) (search reduced_headings)))

-- the columns
pub more_columns-requires-clause-taken : goal.more_columns-requires-clause-taken
more_columns-requires-clause-taken c = all_taken (Reduced c.args.op) c.args.on.now c.args.values.now.places (search rules) (search rules)

-- the table
pub new_table-requires-clause-rows : goal.new_table-requires-clause-rows
new_table-requires-clause-rows c =
    let dict = c.args.dict.now in
    rw (ap (λ gs. gs.count) c.in_ok-found.ensures.groups ∙ sym (axis_counted dict (table_value dict c.args.on.now) (grouping_seen dict c.args.grouping.now) c.in_ok-axis.axis c.in_ok-axis.ensures)) at c.in_ok-blocks.ensures.blocks.filled

pub new_table-requires-clause-headed : goal.new_table-requires-clause-headed
new_table-requires-clause-headed c =
    let t = c.args.on.now in
    let v = c.args.values.now in
    let f = made_at (Reduced c.args.op) c.in_ok-found.found.groups (table_value c.args.dict.now t) in
    ap (λ h. length h.labels) c.in_ok-headings.ensures.made
    ∙ ap (λ l. length l) (c.as_slice-2.ensures.value ∙ c.in_ok-labels.ensures.made)
    ∙ sym (blocks_counted _ _ _ (c.in_ok-blocks.ensures.columns ∙ ap (λ ks. ks ++ map f v.places) c.in_ok-keys.ensures.columns) ∙ group_headings_counted _ t c.args.grouping.now c.as_slice.result.now _ (length-map v.places f ∙ sym (labels_counted t _ _ (c.as_slice.ensures.value ∙ c.in_ok-own.ensures))))

pub returns : goal.returns
returns c =
    let dict = c.args.dict.now in
    let t = c.args.on.now in
    let g = c.args.grouping.now in
    let v = c.args.values.now in
    let T = table_value dict t in
    let owned = c.as_slice.ensures.value ∙ c.in_ok-own.ensures in
    let labels = c.as_slice-2.ensures.value ∙ c.in_ok-labels.ensures.made in
    let made = c.in_ok-blocks.ensures.columns ∙ ap (λ ks. ks ++ map (made_at (Reduced c.args.op) c.in_ok-found.found.groups T) v.places) c.in_ok-keys.ensures.columns
    ∙ ap (λ gs. group_keys T (grouping_seen dict g) ++ map (made_at (Reduced c.args.op) gs T) v.places) c.in_ok-found.ensures.groups in
    let table = reduced_table dict t g v c.args.op in
    let headed = reduced_headings dict t g v c.args.op c.as_slice.result.now _ c.count-count.result owned labels (c.count-count.ensures ∙ ap (λ gs. gs.count) c.in_ok-found.ensures.groups) in
    made_is dict c.is_single-single.result table _ c.in_ok-axis.axis _ _ _ _ c.new_table.result
    (group_made _ t g _ _ _ _ _ _ _ c.requires.known.given c.columns_name-name.ensures c.in_ok-axis.ensures headed.headings (rw labels (group_headings_settled dict t g c.as_slice.result.now c.requires.known.given (own_settled _ t _ _ owned c.requires.known.given))) made
    c.in_ok-blocks.ensures.blocks) (cc (unshared_is _ _ _ (reduced_shown dict t g v c.args.op _ owned (search rules)) c.in_ok-labels.ensures.unshared, c.is_single-single.ensures)) (c.in_ok-headings.ensures.may dict table headed) c.in_ok-headings.ensures.made c.new_table.ensures
