use Rattle.meaning_language.{proofs.cells.Common.{◌≡◌, length}, specs.Token.{skip}}
use Rattle.script_tokens.proofs.blank.skip.Given as goal

abbrev pub invariant-skipping : goal.invariant-skipping
invariant-skipping l = skip l.rest ≡ skip l.bytes

abbrev pub decreases-skipping : goal.decreases-skipping
decreases-skipping l = length l.rest
