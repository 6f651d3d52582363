use Rattle.{
  script_tokens.{proofs.cells.Common.{◌≡◌, ◌+◌, ◌≤◌, ◌-◌, length}, specs.{language.Depth.{depth}, View.{tokens_of}}},
  script_tree.specs.View.{expr_of},
}
use Rattle.script_syntax.specs.At as at
use Rattle.script_syntax.proofs.grammar.Grammar.operators.Given as goal

abbrev pub invariant-loop : goal.invariant-loop
invariant-loop g l = record {
  same : at.operators l.self.room (length (tokens_of l.tokens) - l.counter) l.least (expr_of l.x) (tokens_of l.rest) ≡ at.operators l.self.room (length (tokens_of l.tokens)) l.least (expr_of l.fn.begun.0) (tokens_of l.tokens);
  deep : l.depth ≡ depth (expr_of l.x);
  fits : l.depth ≤ l.self.room + 1;
}
