use Rattle.{frame_parts.proofs.Common.{err_from_is_err_and, subscript_of}, frame_select.proofs.NamedLaws.{column_once, column_repeated, column_refused}}
use Rattle.frame_select.proofs.reaching.at_columns.Goals as goal

pub returns-in_err-columns-clause-columns : goal.returns-in_err-columns-clause-columns
returns-in_err-columns-clause-columns c = λ live settled.
    let p = err_from_is_err_and c.from_residual-in_err-columns.result c.from_residual-in_err-columns.ensures.1 in
    rw (p.1, p.2) (column_refused _ c.args.on.now (λ texts. subscript_of live texts c.args.key.now) _ (c.in_ok-label.ensures.labels live) settled c.in_err-columns.field-0.0 (c.in_err-columns.ensures.columns live settled))

pub returns-then-columns-clause-columns : goal.returns-then-columns-clause-columns
returns-then-columns-clause-columns c = λ live settled.
    column_once _ c.args.on.now (λ texts. subscript_of live texts c.args.key.now) _ (c.in_ok-label.ensures.labels live) settled c.in_ok-columns.columns (c.in_ok-columns.ensures.columns live settled) c.if-columns.true

pub returns-else-columns-clause-columns : goal.returns-else-columns-clause-columns
returns-else-columns-clause-columns c = λ live settled.
    column_repeated _ c.args.on.now (λ texts. subscript_of live texts c.args.key.now) _ (c.in_ok-label.ensures.labels live) settled c.in_ok-columns.columns (c.in_ok-columns.ensures.columns live settled) c.if-columns.false
