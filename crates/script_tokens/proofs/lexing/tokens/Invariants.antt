use Rattle.{
  meaning_language.proofs.cells.Common.{length, IsUtf8},
  script_tokens.{specs.View.{tokens_of}, proofs.LexLaws.{IsLexedTo}},
}
use Rattle.script_tokens.proofs.lexing.tokens.Given as goal

abbrev pub invariant-lexing : goal.invariant-lexing
invariant-lexing l = record {
  so_far : IsLexedTo l.piece l.rest (tokens_of l.tokens.items);
  utf8 : IsUtf8 l.rest;
}

abbrev pub decreases-lexing : goal.decreases-lexing
decreases-lexing l = length l.rest
