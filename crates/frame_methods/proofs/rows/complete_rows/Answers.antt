use Rattle.{
  frame_parts.proofs.Common.{◌∙◌, ◌<◌, ◌≤◌, sym, [], length, arith, length-map, table_value, tuple_value},
  frame_methods.proofs.{RowLaws.{complete_more, complete_same, complete_all, complete_below}, rows.complete_rows.Goals.{then-is_complete+in_ok-push, else-is_complete}},
}
use Rattle.frame_methods.proofs.rows.complete_rows.Goals as goal

pub loop-row-preserved : goal.loop-row-preserved
loop-row-preserved c = λ texts.
    let t = table_value texts c.args.on.now in
    let lt : c.loop-row.row < length t.labels = omega (arith, c.rows-row-end.ensures, length-map c.args.on.now.labels (tuple_value texts)) in
    elim c.if-is_complete.branch [
      | then-is_complete+in_ok-push w ↦ complete_more t _ _ _ lt (c.loop-row.invariant texts) (sym (c.is_complete.ensures texts) ∙ w.if-is_complete.true) (w.rows-is ∙ w.in_ok-push.ensures.ok)
      | else-is_complete w ↦ w.rows-is ∙ complete_same t _ _ lt (c.loop-row.invariant texts) (sym (c.is_complete.ensures texts) ∙ w.if-is_complete.false)
    ]

pub returns-clause-rows : goal.returns-clause-rows
returns-clause-rows c = λ texts.
    let end : length (table_value texts c.args.on.now).labels ≤ c.loop-row.row = omega (arith, c.rows-row-end.ensures, length-map c.args.on.now.labels (tuple_value texts)) in
    complete_all (table_value texts c.args.on.now) _ _ end (c.loop-row.invariant texts)

pub returns-clause-below : goal.returns-clause-below
returns-clause-below c =
    let end : length (table_value [] c.args.on.now).labels ≤ c.loop-row.row = omega (arith, c.rows-row-end.ensures, length-map c.args.on.now.labels (tuple_value [])) in
    complete_below [] c.args.on.now _ (complete_all (table_value [] c.args.on.now) _ _ end (c.loop-row.invariant []))
