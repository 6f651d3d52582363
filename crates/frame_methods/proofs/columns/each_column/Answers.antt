use Rattle.{
  frame_parts.proofs.Common.{◌∙◌, ◌<◌, length, arith, err_from_is_err_and},
  frame_methods.proofs.{ColumnLaws.{given_later, place_given, same_answer, front_step, front_refused, refused_columns}, HeldLaws.{are_given}},
}
use Rattle.frame_methods.proofs.columns.each_column.Goals as goal

pub column-requires-in-loop-place-clause-cells : goal.column-requires-in-loop-place-clause-cells
column-requires-in-loop-place-clause-cells g c =
    let lt : c.loop-place.place < length c.args.on.now.columns = omega arith in
    given_later _ _ _ c.loop-place.invariant.longer (place_given _ _ _ _ c.requires.settled lt c.column.ensures.column)

pub returns-in_err-column-clause-answer : goal.returns-in_err-column-clause-answer
returns-in_err-column-clause-answer g c =
    let lt : c.loop-place.place < length c.args.on.now.columns = omega arith in
    let p = err_from_is_err_and c.from_residual.result c.from_residual.ensures.1 in
    rw (p.1, p.2) (refused_columns _ _ _
    (λ e is. front_refused _ _ _ _ _ _ _ _ e c.loop-place.invariant lt c.column.ensures.column ((same_answer (g.O.ColumnOp.answer _) _ _ _ _ c.loop-place.invariant.longer (are_given _ _ c.requires.own) (place_given _ _ _ _ c.requires.settled lt c.column.ensures.column)) ∙ is))
    c.in_err-column.ensures.answer)

pub loop-place-preserved : goal.loop-place-preserved
loop-place-preserved g c =
    let lt : c.loop-place.place < length c.args.on.now.columns = omega arith in
    let made = c.in_ok-column.ensures in
    front_step _ _ _ _ _ _ _ _ _ _ _
    c.loop-place.invariant lt c.column.ensures.column made.longer made.given (made.rows ∙ c.column.ensures.rows)
    (rw c.into_block.ensures at c.in_ok-push.ensures.ok) ((same_answer (g.O.ColumnOp.answer _) _ _ _ _ c.loop-place.invariant.longer (are_given _ _ c.requires.own) (place_given _ _ _ _ c.requires.settled lt c.column.ensures.column)) ∙ made.answer)
