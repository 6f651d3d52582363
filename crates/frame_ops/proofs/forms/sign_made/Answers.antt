use Rattle.{
  frame_parts.proofs.Common.{object_settled},
  frame_ops.proofs.InfixLaws.{makes_as, inverted_by_xor, inverted_as_read},
}
use Rattle.frame_ops.proofs.forms.sign_made.Goals as goal

pub scalar_infix-requires-clause-known : goal.scalar_infix-requires-clause-known
scalar_infix-requires-clause-known c = search object_settled

pub scalar_infix-requires-else-negate-clause-known : goal.scalar_infix-requires-else-negate-clause-known
scalar_infix-requires-else-negate-clause-known c = search object_settled

pub returns-else-negate-clause-makes : goal.returns-else-negate-clause-makes
returns-else-negate-clause-makes c = search (makes_as, inverted_by_xor, inverted_as_read)
