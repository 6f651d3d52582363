use Rattle.{
  frame_parts.proofs.Common.{err_from_is_err_and, table_value},
  frame_merge.{specs.Keys.{cell_labels}, proofs.KeyLaws.{left_repeated, right_repeated}},
}
use Rattle.frame_merge.proofs.keys.keys_named.Goals as goal

pub returns-in_err-left-clause-answer : goal.returns-in_err-left-clause-answer
returns-in_err-left-clause-answer c =
    let p = err_from_is_err_and c.from_residual-in_err-left.result c.from_residual-in_err-left.ensures.1 in
    let texts = c.args.dict.now in
    let left = c.in_ok-of_left.ensures in
    let right = c.in_ok-of_right.ensures in
    rw (p.1, p.2) (left_repeated texts (table_value texts c.args.l.now) (table_value texts c.args.r.now) (cell_labels texts c.args.labels.now) c.in_ok-of_left.of_left c.in_ok-of_right.of_right left.answer right.answer left.repeated right.repeated left.given _ c.in_err-left.ensures.refused)

pub returns-in_err-right-clause-answer : goal.returns-in_err-right-clause-answer
returns-in_err-right-clause-answer c =
    let p = err_from_is_err_and c.from_residual-in_err-right.result c.from_residual-in_err-right.ensures.1 in
    let texts = c.args.dict.now in
    let left = c.in_ok-of_left.ensures in
    let right = c.in_ok-of_right.ensures in
    rw (p.1, p.2)
    (right_repeated texts (table_value texts c.args.l.now) (table_value texts c.args.r.now) (cell_labels texts c.args.labels.now) c.in_ok-of_left.of_left c.in_ok-of_right.of_right left.answer right.answer left.repeated right.repeated c.in_ok-left.ensures.ok.1 right.given _ c.in_err-right.ensures.refused)
