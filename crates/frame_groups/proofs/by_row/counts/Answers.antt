use Rattle.{
  frame_parts.proofs.Common.{length-map, err_from_is_err_and, arith, ◌∙◌, ap, refl, true, [], ◌∷◌, None, length, labels_part, level_names_part, columns_name_part},
  frame_groups.proofs.{RowLaws.{counts_table, counts_boxed, counts_seen}, ShownLaws.{made_is, refused_is}},
}
use Rattle.frame_groups.proofs.by_row.counts.Goals as goal

pub returns-in_err-headings : goal.returns-in_err-headings
returns-in_err-headings c = λ _.
    let p = err_from_is_err_and c.from_residual-in_err-headings.result c.from_residual-in_err-headings.ensures.1 in
    rw (p.1, p.2) (refused_is _ _ _ _ _ refl (c.in_err-headings.ensures.may c.args.dict.now (counts_table c.args.dict.now c.args.on.now c.args.grouping.now) (grind (arith, length-map))))

pub new_table-requires-clause-rows : goal.new_table-requires-clause-rows
new_table-requires-clause-rows c =
    let dict = c.args.dict.now in
    let boxed = counts_boxed _ c.args.on.now c.args.grouping.now _ c.in_ok-found.ensures.groups _ _ _ _ c.new-blocks.ensures c.into_block.ensures c.in_ok-push.ensures.ok
    (c.in_ok-column.ensures.answer dict) (c.in_ok-column.ensures.given dict) in
    rw (ap (λ a. length a.tuples) (c.in_ok-axis.ensures ∙ c.axis.ensures)) boxed.filled

pub returns : goal.returns
returns c = λ _.
    let dict = c.args.dict.now in
    let t = c.args.on.now in
    let g = c.args.grouping.now in
    let table = counts_table dict t g in
    let boxed = counts_boxed _ t g _ c.in_ok-found.ensures.groups _ _ _ _ c.new-blocks.ensures c.into_block.ensures c.in_ok-push.ensures.ok
    (c.in_ok-column.ensures.answer dict) (c.in_ok-column.ensures.given dict) in
    made_is dict true table _ _ t.columns_name (None ∷ []) c.push.new.self _ _
    record {
      frame = c.requires.shape;
      named = refl;
      axis_is = grind (arith, labels_part, level_names_part);
      headings = refl;
      columns = counts_seen dict t g _ c.in_ok-found.ensures.groups _ _ _ _ c.new-blocks.ensures c.into_block.ensures c.in_ok-push.ensures.ok (c.in_ok-column.ensures.answer dict);
      name_given = search columns_name_part;
      labels_given = λ more. refl;
      blocks_given = boxed.given;
    }
    refl (c.in_ok-headings.ensures.may dict table (grind (arith, length-map))) c.in_ok-headings.ensures.made c.new_table.ensures
