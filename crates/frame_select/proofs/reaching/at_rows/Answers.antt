use Rattle.{
  frame_parts.proofs.Common.{arith, err_from_is_err_and, subscript_of},
  frame_select.proofs.ReachLaws.{at_refused, at_found, at_repeated},
}
use Rattle.frame_select.proofs.reaching.at_rows.Goals as goal

pub returns-in_err-rows-clause-rows : goal.returns-in_err-rows-clause-rows
returns-in_err-rows-clause-rows c = λ live settled.
    let p = err_from_is_err_and c.from_residual-in_err-rows.result c.from_residual-in_err-rows.ensures.1 in
    rw (p.1, p.2) (at_refused _ c.args.on.now _ _ (λ texts. subscript_of live texts c.args.key.now) _ _ (grind arith) c.axis-axis.ensures
    (c.in_ok-label.ensures.labels live) c.copy.ensures settled c.in_err-rows.field-0.0 c.in_err-rows.ensures.rows)

pub returns-then-rows-clause-rows : goal.returns-then-rows-clause-rows
returns-then-rows-clause-rows c = λ live settled.
    at_found _ c.args.on.now _ _ (λ texts. subscript_of live texts c.args.key.now) _ _ (grind arith) c.axis-axis.ensures
    (c.in_ok-label.ensures.labels live) c.copy.ensures settled c.in_ok-rows.rows c.if-rows.true c.in_ok-rows.ensures.rows

pub returns-else-rows-clause-rows : goal.returns-else-rows-clause-rows
returns-else-rows-clause-rows c = λ live settled.
    at_repeated _ c.args.on.now _ _ (λ texts. subscript_of live texts c.args.key.now) _ _ (grind arith) c.axis-axis.ensures
    (c.in_ok-label.ensures.labels live) c.copy.ensures settled c.in_ok-rows.rows c.if-rows.false c.in_ok-rows.ensures.rows
