use Rattle.{
  frame_parts.proofs.{Common.{arith, length}, RowLaws.{tuples_given}},
  frame_ops.proofs.JoinLaws.{rows_inside, joined_given},
}
use Rattle.frame_ops.proofs.joining.joined_rows.Goals as goal

pub outer_within-requires-clause-given_a : goal.outer_within-requires-clause-given_a
outer_within-requires-clause-given_a c = search tuples_given

pub outer_within-requires-clause-given_b : goal.outer_within-requires-clause-given_b
outer_within-requires-clause-given_b c = search tuples_given

pub returns-in-Ok-clause-given : goal.returns-in-Ok-clause-given
returns-in-Ok-clause-given c =
    joined_given _ _ _ _ c.in-Ok.rows
    (rows_inside _ _ _ c.len.ensures.distinct c.requires.given_a c.requires.given_b _ c.requires.few (length c.args.a.now.names)
    (grind arith) (grind arith) c.in-Ok.rows c.in-Ok.ensures.rows)

pub returns-in-Ok-clause-inside : goal.returns-in-Ok-clause-inside
returns-in-Ok-clause-inside c =
    let inside =
    rows_inside _ _ _ c.len.ensures.distinct c.requires.given_a c.requires.given_b _ c.requires.few (length c.args.a.now.names)
    (grind arith) (grind arith) c.in-Ok.rows c.in-Ok.ensures.rows in
    grind arith
