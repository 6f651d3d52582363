use Rattle.{
  meaning_language.proofs.cells.Common.{arith},
  std.proofs.lemmas.Fmt.{decimal_digit, first_decimal},
  script_tokens.proofs.{Runs.{IsUtf8-run}, TokenLaws.{digit_is_ascii, digits_spell, number_parses}, word.value_of.Goals.{else-digits-gt1-via-then-digits-gt1+else-digits-eq48}},
}
use Rattle.script_tokens.proofs.word.value_of.Goals as goal

pub text_of-requires : goal.text_of-requires
text_of-requires c = IsUtf8-run _ digit_is_ascii c.args.digits.now c.requires.digits

pub returns-then-digits-eq48 : goal.returns-then-digits-eq48
returns-then-digits-eq48 = grind (arith, decimal_digit, first_decimal)

pub returns-then-value-le-MAX_INT : goal.returns-then-value-le-MAX_INT
returns-then-value-le-MAX_INT = grind (arith, else-digits-gt1-via-then-digits-gt1+else-digits-eq48, digits_spell)

pub returns-else-value-le-MAX_INT : goal.returns-else-value-le-MAX_INT
returns-else-value-le-MAX_INT = grind (arith, number_parses)

pub returns-in_default : goal.returns-in_default
returns-in_default = grind (arith, number_parses)
