use Rattle.{
  script_tokens.{proofs.cells.Common.{◌≡◌, ◌≤◌, ◌-◌, length, false}, specs.{language.{Tree.{parts}, Depth.{parts_depth}}, View.{mark_of, tokens_of}}},
  script_syntax.specs.Found.{after_parts},
}
use Rattle.script_syntax.specs.At as at
use Rattle.script_syntax.proofs.grammar.Grammar.separated.Given as goal

abbrev pub invariant-loop : goal.invariant-loop
invariant-loop g l = record {
  same : after_parts (g.L.PartList.parts_of l.list) (at.parts l.self.room g.L.PartList.by (mark_of l.close) l.after_name (length (tokens_of l.tokens) - l.counter) (tokens_of l.rest))
      ≡ after_parts (g.L.PartList.parts_of l.fn.begun.0) (at.parts l.self.room g.L.PartList.by (mark_of l.close) false (length (tokens_of l.tokens)) (tokens_of l.tokens));
  deep : l.deepest ≡ parts_depth (parts (g.L.PartList.parts_of l.list));
  fits : l.deepest ≤ l.self.room;
}
