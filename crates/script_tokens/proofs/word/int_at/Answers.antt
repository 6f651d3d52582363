use Rattle.{
  meaning_language.proofs.cells.Common.{arith},
  script_tokens.proofs.TokenLaws.{run_is_some, no_int},
}
use Rattle.script_tokens.proofs.word.int_at.Goals as goal

pub value_of-requires-clause-digits : goal.value_of-requires-clause-digits
value_of-requires-clause-digits c = search

pub value_of-requires-clause-some : goal.value_of-requires-clause-some
value_of-requires-clause-some c = search run_is_some

pub returns-in_err-value : goal.returns-in_err-value
returns-in_err-value = grind (arith, no_int)

pub returns : goal.returns
returns = grind arith
