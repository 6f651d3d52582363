use Rattle.{
  script_tokens.proofs.cells.Common.{arith},
  meaning_query.specs.Reading.{and_then, or_else},
  frame_query.proofs.Loops.{turns},
}
use Rattle.frame_query.proofs.grammar.Grammar.joints.Goals as goal

pub returns-in_default : goal.returns-in_default
unfolding and_then or_else
returns-in_default = grind (arith, turns)

pub returns-in_err-next : goal.returns-in_err-next
unfolding and_then or_else
returns-in_err-next = grind (arith, turns)

pub loop-preserved : goal.loop-preserved
unfolding and_then or_else
loop-preserved = grind (arith, turns)

pub returns : goal.returns
unfolding and_then or_else
returns = grind (arith, turns)
