use Rattle.{
  meaning_language.proofs.cells.Common.{common_steps, ◌<◌, length, refl, arith},
  script_tokens.proofs.LexLaws.{no_token_short, no_text, only_signs, IsUtf8-after_quote},
}
use Rattle.script_tokens.proofs.lexing.token_at.Goals as goal

pub returns-in_default : goal.returns-in_default
returns-in_default c = search no_token_short

pub text_before-requires-clause-utf8 : goal.text_before-requires-clause-utf8
text_before-requires-clause-utf8 c =
    IsUtf8-after_quote _ _ _ (c.if-is_quote.ensures.0 refl) (grind (arith, common_steps)) c.requires

pub returns-in-None : goal.returns-in-None
returns-in-None c =
    let some : 0 < length c.args.bytes.now = omega arith in
    no_text _ _ _ (c.if-is_quote.ensures.0 refl) (grind (arith, common_steps)) (rw c.in-None.is at c.in_ok-text.ensures)

pub returns : goal.returns
returns = grind (arith, only_signs)
