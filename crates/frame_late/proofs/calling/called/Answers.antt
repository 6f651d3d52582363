use Rattle.{frame_methods.proofs.frame_parts.Common.{sym, subst, IsSettled, arguments_of, arguments_in, object_value, world, err_from_is_err_and}, frame_labels.proofs.AnswerLaws.{forms_so}, frame_signatures.specs.Bound.{given_in}, frame_late.proofs.StrLaws.{told_so, untold_forms}}
use Rattle.frame_late.proofs.calling.called.Goals as goal

pub returns-in_err-op : goal.returns-in_err-op
returns-in_err-op c =
    let w = world c.args.store.now c.args.dict.now in
    let p = err_from_is_err_and c.from_residual-in_err-op.result c.from_residual-in_err-op.ensures.1 in
    rw (p.1, p.2)
    (untold_forms c.args.method (arguments_in w c.args.args.now) (given_in w c.in_ok-bound.bound) (object_value w.tables w.texts c.args.on) (rw c.str_parameters.ensures at c.in_ok-bound.ensures.0) w c.in_err-op.field-0.0 c.requires.settled c.requires.texts (c.in_err-op.ensures w))

pub columns_placed-requires-clause-own : goal.columns_placed-requires-clause-own
columns_placed-requires-clause-own c =
    let w = world c.args.store.now c.args.dict.now in
    (c.in_ok-op.ensures w).1 (subst (IsSettled (arguments_of w.tables) w.texts) (sym c.in_ok-bound.ensures.2) c.requires.arguments.given)

pub returns : goal.returns
returns c =
    let w = world c.args.store.now c.args.dict.now in
    forms_so _ _ _ _ _ _
    (told_so c.args.method (arguments_in w c.args.args.now) (given_in w c.in_ok-bound.bound) (object_value w.tables w.texts c.args.on) (rw c.str_parameters.ensures at c.in_ok-bound.ensures.0) w.texts c.in_ok-op.op.op (c.in_ok-op.ensures w).0)
    c.columns_placed.ensures
