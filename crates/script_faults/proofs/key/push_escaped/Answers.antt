use Rattle.script_faults.proofs.Quoting.{quoted_more, quoted_whole}
use Rattle.script_faults.proofs.key.push_escaped.Goals as goal

pub loop-character-preserved : goal.loop-character-preserved
loop-character-preserved c = quoted_more _ _ _ _ _ c.in-Some.character c.loop-character.invariant c.in-Some.ensures.steps.0 c.in_ok-push_character.ensures

pub returns : goal.returns
returns c = quoted_whole _ _ _ c.loop-character.invariant c.in-None.ensures.steps.0.0
