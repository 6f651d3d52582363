use Rattle.{
  meaning_query.proofs.language.cells.Common.{common_steps, arith},
  query_tokens.proofs.LexLaws.{no_token_short, no_quoted, IsUtf8-after_backquote},
}
use Rattle.query_tokens.proofs.lexing.query_token_at.Goals as goal

pub returns-in_default : goal.returns-in_default
returns-in_default c = search no_token_short

pub name_before-requires : goal.name_before-requires
name_before-requires c = IsUtf8-after_backquote c.args.bytes.now _ (grind (arith, common_steps)) c.requires

pub returns-in-None : goal.returns-in-None
returns-in-None c = no_quoted c.args.bytes.now _ (grind (arith, common_steps)) (rw c.in-None.is at c.name_before.ensures)
