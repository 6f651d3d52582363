use Rattle.{
  meaning_query.{proofs.language.cells.Common.{length, IsUtf8}, specs.language.Token.{skip}},
  query_tokens.{specs.View.{query_tokens_of}, proofs.LexLaws.{IsLexedTo}},
}
use Rattle.query_tokens.proofs.lexing.query_tokens.Given as goal

abbrev pub invariant-lexing : goal.invariant-lexing
invariant-lexing l = record {
  so_far : IsLexedTo (skip l.text) l.rest (query_tokens_of l.tokens.items);
  utf8 : IsUtf8 l.rest;
}

abbrev pub decreases-lexing : goal.decreases-lexing
decreases-lexing l = length l.rest
