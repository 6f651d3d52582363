use Rattle.{
  script_tokens.proofs.cells.Common.{◌≡◌, ◌-◌, length},
  script_tree.specs.View.{parts_of},
  query_tokens.specs.View.{query_tokens_of},
  meaning_query.specs.Reading.{more_at},
  frame_query.specs.Found.{items_depth},
}
use Rattle.frame_query.proofs.constants.more_at.Given as goal

abbrev pub invariant-loop : goal.invariant-loop
invariant-loop l = record {
  same : more_at (length (query_tokens_of l.tokens) - l.counter) (parts_of l.list) (query_tokens_of l.rest) ≡ more_at (length (query_tokens_of l.tokens)) (parts_of l.fn.begun) (query_tokens_of l.tokens);
  deep : items_depth (parts_of l.list) ≡ 1;
}
