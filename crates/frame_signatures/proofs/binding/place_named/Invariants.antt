use Rattle.frame_store.proofs.cells.Common.{◌≡◌, ◌+◌, length, position_or_len, same_text}
use Rattle.meaning_call.specs.Signature as signature
use Rattle.frame_signatures.proofs.binding.place_named.Given as goal

abbrev pub invariant-loop-rest : goal.invariant-loop-rest
invariant-loop-rest l =
    (l.place + position_or_len (λ p. same_text (signature.spelled p.name) l.name) l.rest ≡ position_or_len (λ p. same_text (signature.spelled p.name) l.name) l.parameters)
    × (l.place + length l.rest ≡ length l.parameters)

abbrev pub decreases-loop-rest : goal.decreases-loop-rest
decreases-loop-rest l = length l.rest
