use Rattle.{
  script_tokens.proofs.cells.Common.{◌≡◌, ◌+◌, ◌-◌, length},
  query_tokens.specs.View.{query_tokens_of},
  frame_query.specs.Found.{form_of, IsWithin},
}
use Rattle.meaning_query.specs.At as at
use Rattle.frame_query.proofs.grammar.Grammar.joints.Given as goal

abbrev pub invariant-loop : goal.invariant-loop
invariant-loop g l = record {
  same : at.joints l.self.room (length (query_tokens_of l.tokens) - l.counter) l.least (form_of l.form) (query_tokens_of l.rest) ≡ at.joints l.self.room (length (query_tokens_of l.tokens)) l.least (form_of l.fn.begun) (query_tokens_of l.tokens);
  within : IsWithin (l.self.room + 1) l.form;
}
