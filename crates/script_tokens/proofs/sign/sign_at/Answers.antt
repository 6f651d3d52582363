use Rattle.{
  meaning_language.proofs.cells.Common.{common_steps, arith},
  script_tokens.proofs.Signs.{short_operator_stands, mark_stands, no_sign},
}
use Rattle.script_tokens.proofs.sign.sign_at.Goals as goal

pub returns-in-Some-short_operator : goal.returns-in-Some-short_operator
returns-in-Some-short_operator c =
    short_operator_stands _ _ _ _ c.in-Some-short_operator.ensures (grind (arith, common_steps)) c.in_default.ensures

pub returns-in_err-mark : goal.returns-in_err-mark
returns-in_err-mark = grind (arith, no_sign)

pub returns : goal.returns
returns c =
    mark_stands _ _ _ _ c.in_ok-mark.ensures (grind (arith, common_steps)) c.in_default.ensures
