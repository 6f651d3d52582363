use Rattle.{
  meaning_language.proofs.cells.Common.{arith},
  script_tokens.{specs.Quoted.{is_plain}, proofs.Runs.{prefix_len-le, run_at}},
}
use Rattle.script_tokens.proofs.text.split_plain.Goals as goal

pub split_at-requires : goal.split_at-requires
split_at-requires c = omega (arith, prefix_len-le (is_plain c.args.quote) c.args.bytes.now, c.plain_len.ensures)

pub returns : goal.returns
returns c = search run_at
