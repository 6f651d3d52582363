use Rattle.{
  script_tokens.proofs.cells.Common.{arith},
  script_syntax.{specs.Reading.{and_then, pick}, proofs.Loops.{turns}},
}
use Rattle.script_syntax.proofs.grammar.Grammar.steps.Goals as goal

pub returns-then-not-begins_step : goal.returns-then-not-begins_step
unfolding and_then pick
returns-then-not-begins_step = grind (arith, turns)

pub returns-in-Err : goal.returns-in-Err
unfolding and_then pick
returns-in-Err = grind (arith, turns)

pub returns-in_err-x : goal.returns-in_err-x
unfolding and_then pick
returns-in_err-x = grind (arith, turns)

pub loop-preserved : goal.loop-preserved
unfolding and_then pick
loop-preserved = grind (arith, turns)

pub returns : goal.returns
unfolding and_then pick
returns = grind (arith, turns)
