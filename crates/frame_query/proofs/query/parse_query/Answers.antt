use Rattle.{
  script_tokens.proofs.cells.Common.{arith},
  meaning_query.proofs.Law.{read_as, unread},
}
use Rattle.frame_query.proofs.query.parse_query.Goals as goal

pub returns-in_default : goal.returns-in_default
returns-in_default = grind (arith, unread)

pub returns : goal.returns
returns = grind (arith, read_as)
