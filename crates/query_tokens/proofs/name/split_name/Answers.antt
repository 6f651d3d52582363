use Rattle.{
  meaning_query.{proofs.language.cells.Common.{arith}, specs.QueryToken.{is_quoted_byte}},
  script_tokens.proofs.Runs.{prefix_len-le, run_at},
}
use Rattle.query_tokens.proofs.name.split_name.Goals as goal

pub split_at-requires : goal.split_at-requires
split_at-requires c = omega (arith, prefix_len-le is_quoted_byte c.args.bytes.now, c.name_len.ensures)

pub returns : goal.returns
returns c = search run_at
