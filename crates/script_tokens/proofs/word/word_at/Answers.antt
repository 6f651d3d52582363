use Rattle.{
  meaning_language.proofs.cells.Common.{arith},
  script_tokens.proofs.{Runs.{IsUtf8-run}, TokenLaws.{word_is_ascii}},
}
use Rattle.script_tokens.proofs.word.word_at.Goals as goal

pub text_of-requires : goal.text_of-requires
text_of-requires c = IsUtf8-run _ word_is_ascii _ c.split_word.ensures.1

pub returns : goal.returns
returns = grind arith
