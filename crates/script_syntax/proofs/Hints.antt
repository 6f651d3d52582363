-- Laws that the goals of functions want, by the name of the first that does.
use Rattle.{
  script_tokens.proofs.cells.Common.{nat_tests, err_from_is_err_and},
  script_syntax.proofs.ScriptLaws.{reads_first, unsettled, settled, reads_all, no_bytes},
}

pub ruleset parse_pieces = (nat_tests, reads_first, err_from_is_err_and, unsettled, settled, reads_all, no_bytes)
