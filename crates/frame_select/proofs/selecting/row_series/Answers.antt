use Rattle.{
  frame_parts.proofs.Common.{arith, rules, ◌≡◌, refl, true, false, length, err_from_is_err_and, within_limits},
  frame_select.proofs.CutLaws.{row_made, row_beyond, row_refused},
}
use Rattle.frame_select.proofs.selecting.row_series.Goals as goal

pub returns-in_err-kind : goal.returns-in_err-kind
returns-in_err-kind c =
    let p = err_from_is_err_and c.from_residual.result c.from_residual.ensures.1 in
    rw (p.1, p.2) (row_refused _ c.args.on.now _ c.args.columns.now _ (grind arith))

pub returns-then-not-within_limits : goal.returns-then-not-within_limits
returns-then-not-within_limits c =
    let beyond : within_limits (length c.args.columns.now) 1 ≡ false = search rules in
    (row_beyond c.args.on.now _ _ _ _ (grind arith) (rw c.requires.known.whole.headed c.requires.columns) c.row_name-name.ensures c.args.dict.now (c.in_ok-kind.ensures.kind _) beyond, λ more. refl)

pub returns : goal.returns
returns c =
    let within : within_limits (length c.args.columns.now) 1 ≡ true = search rules in
    row_made c.args.on.now _ _ _ _ (grind arith) (rw c.requires.known.whole.headed c.requires.columns) c.row_name-name.ensures c.args.dict.now _
    (c.in_ok-kind.ensures.kind _) within
    (search rules)
    c.requires.known.given
