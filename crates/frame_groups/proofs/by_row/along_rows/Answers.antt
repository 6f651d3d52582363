use Rattle.{
  frame_parts.proofs.Common.{labels_part, level_names_part, columns_name_part, arith, ◌∙◌, ap, sym, true, length, rules, length-map, err_from_is_err_and, table_value},
  frame_groups.{specs.Columns.{made_at}, proofs.{GroupLaws.{blocks_counted}, RowLaws.{own_settled, labels_counted, along_refused, along_meant, along_headings, along_table, blocks_placed}, ShownLaws.{made_is, refused_is}}},
}
use Rattle.frame_groups.proofs.by_row.along_rows.Goals as goal

pub returns-then-not-all_taken : goal.returns-then-not-all_taken
returns-then-not-all_taken c = along_refused c.args.dict.now c.args.on.now c.args.grouping.now c.args.values.now c.args.call c.requires.call (search rules)

pub returns-in_err-headings : goal.returns-in_err-headings
returns-in_err-headings c =
    let dict = c.args.dict.now in
    let t = c.args.on.now in
    let g = c.args.grouping.now in
    let v = c.args.values.now in
    let labels = c.as_slice.ensures.value ∙ c.in_ok-labels.ensures in
    let p = err_from_is_err_and c.from_residual-in_err-headings.result c.from_residual-in_err-headings.ensures.1 in
    rw (p.1, p.2)
    (refused_is _ _ _ _ _ (along_meant dict t g v c.args.call c.requires.call true (search rules))
    (c.in_err-headings.ensures.may dict (along_table dict t g v _ c.requires.call) (search along_headings)))

-- the table
pub new_table-requires-clause-headed : goal.new_table-requires-clause-headed
new_table-requires-clause-headed c =
    let dict = c.args.dict.now in
    ap (λ h. length h.labels) c.in_ok-headings.ensures.made
    ∙ labels_counted c.args.on.now _ _ (c.as_slice.ensures.value ∙ c.in_ok-labels.ensures)
    ∙ sym (blocks_counted dict _ _ (grind (arith, blocks_placed)) ∙ length-map c.args.values.now.places (made_at c.args.call c.in_ok-found.found.groups (table_value dict c.args.on.now)))

pub returns : goal.returns
returns c =
    let dict = c.args.dict.now in
    let t = c.args.on.now in
    let g = c.args.grouping.now in
    let v = c.args.values.now in
    let labels = c.as_slice.ensures.value ∙ c.in_ok-labels.ensures in
    let f = made_at c.args.call c.in_ok-found.found.groups (table_value dict t) in
    let table = along_table dict t g v c.args.call c.requires.call in
    let columns = blocks_placed _ f _ _ _ c.new-blocks.ensures c.in_ok-made.ensures.columns in
    let headed = along_headings _ t g v _ c.requires.call c.as_slice.result.now _ labels c.rows.ensures in
    made_is _ _ _ _ _ _ _ _ _ _
    record {
      frame = c.requires.shape;
      named = cc c.columns_name-name.ensures;
      axis_is = grind (arith, labels_part, level_names_part);
      headings = headed.headings;
      columns = cc c.in_ok-found.ensures.groups;
      name_given = rw c.columns_name-name.ensures (columns_name_part dict t c.requires.known.given);
      labels_given = own_settled dict t v.places c.as_slice.result.now labels c.requires.known.given;
      blocks_given = c.in_ok-made.ensures.blocks.given;
    }
    (along_meant dict t g v c.args.call c.requires.call true (search rules)) (c.in_ok-headings.ensures.may dict table headed) c.in_ok-headings.ensures.made c.new_table.ensures
