use Rattle.{frame_parts.proofs.Common.{◌∙◌, arith, column_at, table_column}, frame_merge.proofs.KeyLaws.{kinds_of_key}, frame_labels.proofs.KeyLaws.{rows_alike}, frame_asof.proofs.RowLaws.{side_of, others_below, others_counted, first_kind, same_count, few_others, rows_answered, rows_for}}
use Rattle.frame_asof.proofs.rows.rows_met.Goals as goal

pub columns_at-requires : goal.columns_at-requires
columns_at-requires c = others_below _ _ _ c.in_ok-left_places.ensures c.requires.keys.alike.paired.left

pub columns_at-requires-2 : goal.columns_at-requires-2
columns_at-requires-2 c = others_below _ _ _ c.in_ok-right_places.ensures c.requires.keys.alike.paired.right

pub nearest_rows-requires-clause-whole : goal.nearest_rows-requires-clause-whole
nearest_rows-requires-clause-whole c =
    let left = first_kind c.args.l.now _ _ _ c.requires.keys.whole c.at.ensures c.column-left.ensures.column in
    (left, kinds_of_key c.args.l.now c.args.r.now c.args.keys.now c.requires.keys.alike _ _ _ _ _ c.at.ensures c.at-2.ensures c.column-left.ensures.column c.column-right.ensures.column ∙ left)

pub nearest_rows-requires-clause-left : goal.nearest_rows-requires-clause-left
nearest_rows-requires-clause-left c = rows_alike _ _ _ _ c.deref-left_by.ensures.value c.column-left.ensures.rows c.in_ok-lefts.ensures.rows

pub nearest_rows-requires-clause-right : goal.nearest_rows-requires-clause-right
nearest_rows-requires-clause-right c = rows_alike _ _ _ _ c.deref-right_by.ensures.value c.column-right.ensures.rows c.in_ok-rights.ensures.rows

pub nearest_rows-requires-clause-same : goal.nearest_rows-requires-clause-same
nearest_rows-requires-clause-same c =
    let lefts = others_counted table_column (column_at c.args.l.now.columns) _ _ _ _ c.in_ok-left_places.ensures c.in_ok-lefts.ensures.columns c.deref-left_by.ensures.value c.requires.keys.alike.paired.some in
    let rights = others_counted table_column (column_at c.args.r.now.columns) _ _ _ _ c.in_ok-right_places.ensures c.in_ok-rights.ensures.columns c.deref-right_by.ensures.value (grind arith) in
    same_count _ _ _ _ lefts rights c.requires.keys.alike.paired.same

pub nearest_rows-requires-clause-few : goal.nearest_rows-requires-clause-few
nearest_rows-requires-clause-few c =
    few_others _ _ (others_counted table_column (column_at c.args.l.now.columns) _ _ _ _ c.in_ok-left_places.ensures c.in_ok-lefts.ensures.columns c.deref-left_by.ensures.value c.requires.keys.alike.paired.some) c.requires.keys.few

pub returns : goal.returns
returns c =
    let l = c.args.l.now in
    let r = c.args.r.now in
    let lefts = side_of l _ _ _ _ _ _ c.at.ensures c.in_ok-left_places.ensures c.column-left.ensures.column c.column-left.ensures.rows c.in_ok-lefts.ensures.columns c.deref-left_by.ensures.value in
    let rights = side_of r _ _ _ _ _ _ c.at-2.ensures c.in_ok-right_places.ensures c.column-right.ensures.column c.column-right.ensures.rows c.in_ok-rights.ensures.columns c.deref-right_by.ensures.value in
    record {
      rows = rw c.met.ensures (rows_answered _ c.len.ensures.distinct l r c.requires.left.given c.requires.right.given c.args.asof.now.direction c.args.asof.now.tolerance c.args.keys.now.left c.args.keys.now.right _ _ _ _ lefts rights _ (c.nearest_rows.ensures c.args.dict.now));
      inside = rw c.met.ensures (rows_for _ c.len.ensures.distinct l r c.requires.left.given c.requires.right.given c.args.asof.now.direction c.args.asof.now.tolerance c.args.keys.now.left c.args.keys.now.right _ _ _ _ lefts rights _ (c.nearest_rows.ensures c.args.dict.now));
    }
