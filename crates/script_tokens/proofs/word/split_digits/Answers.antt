use Rattle.{
  meaning_language.{proofs.cells.Common.{arith}, specs.Token.{is_digit}},
  script_tokens.proofs.Runs.{prefix_len-le, run_at},
}
use Rattle.script_tokens.proofs.word.split_digits.Goals as goal

pub split_at-requires : goal.split_at-requires
split_at-requires c = omega (arith, prefix_len-le is_digit c.args.bytes.now)

pub returns : goal.returns
returns c = search run_at
