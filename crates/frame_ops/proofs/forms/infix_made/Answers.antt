use Rattle.{
  frame_parts.proofs.Common.{tables, object_settled},
  frame_ops.proofs.InfixLaws.{scalar_given},
}
use Rattle.frame_ops.proofs.forms.infix_made.Goals as goal

pub table_infix-requires-clause-known_a : goal.table_infix-requires-clause-known_a
table_infix-requires-clause-known_a c = search object_settled

pub table_infix-requires-clause-known_b : goal.table_infix-requires-clause-known_b
table_infix-requires-clause-known_b c = search object_settled

pub scalar_infix-requires-clause-known : goal.scalar_infix-requires-clause-known
scalar_infix-requires-clause-known c = search object_settled

pub scalar_infix-requires-clause-cell : goal.scalar_infix-requires-clause-cell
scalar_infix-requires-clause-cell c =
    scalar_given _ (tables c.args.store.now) _ (rw c.in-Object-Scalar.is-1 at c.requires.right.given)

pub scalar_infix-requires-in-Scalar-Object-clause-known : goal.scalar_infix-requires-in-Scalar-Object-clause-known
scalar_infix-requires-in-Scalar-Object-clause-known c = search object_settled

pub scalar_infix-requires-in-Scalar-Object-clause-cell : goal.scalar_infix-requires-in-Scalar-Object-clause-cell
scalar_infix-requires-in-Scalar-Object-clause-cell c =
    scalar_given _ (tables c.args.store.now) _ (rw c.in-Scalar-Object.is-0 at c.requires.left.given)
