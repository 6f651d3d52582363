use Rattle.{
  script_tokens.proofs.cells.Common.{arith},
  script_syntax.{specs.Reading.{and_then, or_else, pick}, proofs.Loops.{turns}},
}
use Rattle.script_syntax.proofs.grammar.Grammar.operators.Goals as goal

pub returns-in_default : goal.returns-in_default
unfolding and_then or_else pick
returns-in_default = grind (arith, turns)

pub returns-in-Err : goal.returns-in-Err
unfolding and_then or_else pick
returns-in-Err = grind (arith, turns)

pub returns-in_err-x : goal.returns-in_err-x
unfolding and_then or_else pick
returns-in_err-x = grind (arith, turns)

pub returns-then-level-eq0 : goal.returns-then-level-eq0
unfolding and_then or_else pick
returns-then-level-eq0 = grind (arith, turns)

pub loop-preserved : goal.loop-preserved
unfolding and_then or_else pick
loop-preserved = grind (arith, turns)

pub returns : goal.returns
unfolding and_then or_else pick
returns = grind (arith, turns)
