use Rattle.meaning_language.{proofs.cells.Common.{◌≡◌, ◌≤◌, length}, specs.Token.{skip_comment}}
use Rattle.script_tokens.proofs.blank.after_comment.Given as goal

abbrev pub invariant-passing : goal.invariant-passing
invariant-passing l = (skip_comment l.rest ≡ skip_comment l.bytes) × (length l.rest ≤ length l.bytes)

abbrev pub decreases-passing : goal.decreases-passing
decreases-passing l = length l.rest
