use Rattle.{
  frame_parts.proofs.Common.{arith, ◌∙◌, length-map},
  frame_ops.proofs.JoinLaws.{rows_numbered, side_given},
}
use Rattle.frame_ops.proofs.joining.joined_columns.Goals as goal

pub infix_columns-requires-clause-given : goal.infix_columns-requires-clause-given
infix_columns-requires-clause-given c =
    side_given _ _ _ _ (c.read-on.ensures ∙ c.in_ok-left.ensures) c.requires.known_a.whole c.requires.known_a.given c.requires.inside.left.places

pub infix_columns-requires-clause-other : goal.infix_columns-requires-clause-other
infix_columns-requires-clause-other c =
    side_given _ _ _ _ (c.read.ensures ∙ c.in_ok-right.ensures) c.requires.known_b.whole c.requires.known_b.given c.requires.inside.right.places

pub returns-clause-columns : goal.returns-clause-columns
returns-clause-columns c = grind (arith, length-map, rows_numbered)
