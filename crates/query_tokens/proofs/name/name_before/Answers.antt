use Rattle.{meaning_query.proofs.language.cells.Common.{rules}, query_tokens.proofs.Names.{no_name, not_closed, IsUtf8-name}}
use Rattle.query_tokens.proofs.name.name_before.Goals as goal

pub returns-then-is_empty : goal.returns-then-is_empty
returns-then-is_empty c = no_name c.split_name.result.0.now c.args.bytes.now c.split_name.result.1.now c.split_name.ensures (search rules)

pub text_of-requires : goal.text_of-requires
text_of-requires c =
    IsUtf8-name c.split_name.result.0.now c.args.bytes.now c.split_name.result.1.now c.in_ok-rest.rest.now c.requires c.split_name.ensures c.in_ok-rest.ensures

pub returns-in_err-rest : goal.returns-in_err-rest
returns-in_err-rest c =
    rw c.from_residual.ensures (not_closed c.split_name.result.0.now c.args.bytes.now c.split_name.result.1.now c.split_name.ensures c.in_err-rest.ensures)
