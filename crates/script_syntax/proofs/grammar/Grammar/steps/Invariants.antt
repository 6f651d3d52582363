use Rattle.{
  script_tokens.{proofs.cells.Common.{◌≡◌, ◌+◌, ◌≤◌, ◌-◌, length}, specs.{language.Depth.{depth}, View.{tokens_of}}},
  script_tree.specs.View.{expr_of},
}
use Rattle.script_syntax.specs.At as at
use Rattle.script_syntax.proofs.grammar.Grammar.steps.Given as goal

abbrev pub invariant-loop : goal.invariant-loop
invariant-loop g l = record {
  same : at.steps l.self.room (length (tokens_of l.tokens) - l.counter) (expr_of l.x) (tokens_of l.rest) ≡ at.steps l.self.room (length (tokens_of l.tokens)) (expr_of l.fn.begun.0) (tokens_of l.tokens);
  deep : l.depth ≡ depth (expr_of l.x);
  fits : l.depth ≤ l.self.room + 1;
}
